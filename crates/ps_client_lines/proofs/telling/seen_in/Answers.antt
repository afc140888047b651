use Rattle.std.proofs.Common.{List, inl, inr, refl, subst}
use Rattle.ps_client_lines.specs.Rows.{Row}
use Rattle.ps_client_lines.specs.Holding.{AreAimRows}
use Rattle.ps_client_lines.specs.Refusing.{BlamesSeen, HasBadAim, HasBadShown}
use Rattle.ps_client_lines.proofs.Blaming.{blamed}
use Rattle.ps_client_lines.proofs.telling.seen_in.Goals as goal

pub returns-in-Err-clause-blames : goal.returns-in-Err-clause-blames
returns-in-Err-clause-blames c =
    blamed (BlamesSeen c.args.rows.now) 4 c.in-Err.refusal c.at_table.result c.at_table.ensures c.in-Err.ensures.bad (λ has. inl (refl, subst (λ (rows : List Row). HasBadAim rows) c.as_slice.ensures has)) tt

pub returns-in-Err-shown_list-clause-blames : goal.returns-in-Err-shown_list-clause-blames
returns-in-Err-shown_list-clause-blames c =
    blamed (BlamesSeen c.args.rows.now) 5 c.in-Err-shown_list.refusal c.at_table-in-Err-shown_list.result c.at_table-in-Err-shown_list.ensures c.in-Err-shown_list.ensures.bad
    (λ has.
    inr (
      refl,
      (c.in-Ok.target, subst (λ (rows : List Row). AreAimRows c.in-Ok.target rows) c.as_slice.ensures c.in-Ok.ensures.rows, c.in-Ok.ensures.sound),
      subst (λ (rows : List Row). HasBadShown rows) c.as_slice-2.ensures has,
    )) tt
