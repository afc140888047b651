use Rattle.std.proofs.Common.{List, sym, subst}
use Rattle.ps_rows.specs.declared.changes.Transaction.{Transaction}
use Rattle.ps_files.specs.ChangeFiles.{CanBeFed}
use Rattle.ps_files.proofs.MadeInput.{made_can_be_fed}
use Rattle.ps_files.proofs.making.write_made.Goals as goal

pub write_transactions-requires : goal.write_transactions-requires
write_transactions-requires c = subst (λ (ts : List Transaction). CanBeFed 0 ts) (sym c.in_ok-made.ensures) (made_can_be_fed c.args.count c.requires)
