use Rattle.std.proofs.Common.{arith}
use Rattle.ps_store.proofs.Calls.{commit_done}
use Rattle.ps_store.proofs.stores.Store.commit.Goals as goal

pub returns : goal.returns
returns c = λ fixed history h.
    commit_done fixed c.args.self.now history h (record { position = c.position-position.result; op = record { 0 = c.max.result } }) c.forget.new.self c.reached_count-self.result
    c.position-position.ensures (omega (arith, c.max.ensures, c.op.ensures)) c.reached_count-self.ensures (λ e. omega (arith, e, c.position-position.ensures)) c.forget.ensures.rules c.forget.ensures.last c.forget.ensures.forgotten c.forget.ensures.notes
