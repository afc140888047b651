use Rattle.std.proofs.Common.{refl, arith}
use Rattle.std.proofs.lemmas.List.{same_lists}
use Rattle.ps_audit.proofs.cursors.are_same.Goals as goal

pub returns : goal.returns
returns c = (λ e. same_lists c.args.rows.now c.args.others.now (omega arith) (λ k row low. c.places.invariant k row (omega arith)), λ e. refl)
