use Rattle.std.proofs.Common.{◌≡◌, List, [], ◌∷◌, sym, ap, ◌∙◌, subst, rules, arith}
use Rattle.std.proofs.lemmas.Result.{on_ok_weaker}
use Rattle.ps_client_log.specs.declared.edits.Edit.{Edit}
use Rattle.ps_client_log.specs.declared.edits.Edit.TheVariants.{Aim, Show}
use Rattle.ps_client_log.specs.declared.states.Target.TheVariants.{Free}
use Rattle.ps_client_log.specs.Edits.{with_edits}
use Rattle.ps_client_log.specs.Kept.{Kept}
use Rattle.ps_client_log.specs.Logs.{kept}
use Rattle.ps_client.specs.Taking.{AreHeld}
use Rattle.ps_client.proofs.ShownRows.{held_shown}
use Rattle.ps_client.proofs.taking.show_held.Goals as goal

pub returns-clause-rows : goal.returns-clause-rows
returns-clause-rows g c =
    let before = kept c.args.log.now in
    let edits : c.in_ok-edits.edits.items ≡ Show c.in_ok-rows.rows.items ∷ Aim Free ∷ [] = first_of (cc, search rules, grind arith) in
    on_ok_weaker c.apply.result
    (λ is. subst (AreHeld before)
    (sym (ap (λ (k : Kept). k.shown) is ∙ ap (λ (all : List Edit). (with_edits before all).shown) edits))
    (held_shown before c.in_ok-rows.rows.items c.in_ok-rows.ensures.in_order c.in_ok-rows.ensures.latest c.in_ok-rows.ensures.all)) c.apply.ensures.ok
