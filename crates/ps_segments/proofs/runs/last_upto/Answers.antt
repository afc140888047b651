use Rattle.std.proofs.Common.{◌-◌, arith}
use Rattle.ps_segments.proofs.Noting.{last_in, none_before}
use Rattle.ps_segments.proofs.runs.last_upto.Goals as goal

pub returns-then-place-eq0-clause-none : goal.returns-then-place-eq0-clause-none
returns-then-place-eq0-clause-none g c =
    none_before c.args.id.0 c.cut_past-run.result.run c.cut_past-run.result.place c.args.sealed.now c.args.growing.now c.cut_past-run.ensures.cut (omega arith)

pub returns-clause-some : goal.returns-clause-some
returns-clause-some g c =
    rw c.look.ensures.entry
    (last_in c.args.id.0 c.cut_past-run.result.run c.cut_past-run.result.place (c.cut_past-run.result.place - 1) c.args.sealed.now c.args.growing.now c.run_at.result.now
    c.index-run_at-place.result c.run_at.ensures c.requires c.cut_past-run.ensures.cut (omega arith) c.index-run_at-place.is)
