use Rattle.std.proofs.Common.{arith}
use Rattle.ps_store.proofs.Compactions.{compact_none, compact_faults, compact_done}
use Rattle.ps_store.proofs.stores.Store.compact.Goals as goal

pub returns-then-count_upto-eq0 : goal.returns-then-count_upto-eq0
returns-then-count_upto-eq0 c = λ fixed history h.
    compact_none fixed c.args.self.now history h c.args.bucket.now (omega (arith, c.count_upto.ensures))

pub returns : goal.returns
returns c = λ fixed history h.
    compact_done fixed c.args.self.now history h c.args.bucket.now c.logs_stand_for_originals.ensures c.standing_logs_stay_standing.ensures.log c.standing_logs_have_the_sums_of_their_originals.ensures
    (λ e. omega (arith, e, c.count_upto.ensures)) c.compact.new.self c.in_ok-report.report c.in_ok-report.ensures.ok c.in_ok-report.ensures.report

pub returns-in_err-report : goal.returns-in_err-report
returns-in_err-report c = λ fixed history h.
    compact_faults fixed c.args.self.now history h c.args.bucket.now (λ e. omega (arith, e, c.count_upto.ensures)) c.compact.new.self c.in_err-report.ensures.err c.from_residual.result c.from_residual.ensures.1
