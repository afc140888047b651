use Rattle.std.proofs.Common.{refl, List, subst}
use Rattle.ps_client_lines.specs.Rows.{Row}
use Rattle.ps_client_lines.specs.Refusing.{BlamesQueue, HasBadWrite}
use Rattle.ps_client_lines.proofs.Blaming.{blamed}
use Rattle.ps_client_lines.proofs.telling.writes_in.Goals as goal

pub returns-in-Err-clause-blames : goal.returns-in-Err-clause-blames
returns-in-Err-clause-blames c =
    blamed (BlamesQueue c.args.rows.now) 3 c.in-Err.refusal c.at_table.result c.at_table.ensures c.in-Err.ensures.bad (λ has. (refl, subst (λ (rows : List Row). HasBadWrite rows) c.as_slice.ensures has)) tt
