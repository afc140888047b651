use Rattle.std.proofs.Common.{List, map, sym, ap, subst, ◌∙◌}
use Rattle.std.proofs.lemmas.Result.{IfOk-weaker}
use Rattle.ps_granted.specs.declared.copies.Granted.{Granted}
use Rattle.ps_granted.specs.Latest.{latest_after, shown_of, AreLatest}
use Rattle.ps_granted.proofs.LatestCopies.{rows_are_latest}
use Rattle.ps_grant.proofs.StepLaws.{nothing_left}
use Rattle.ps_grant.proofs.latest.rows_of.Goals as goal

pub returns-clause-latest : goal.returns-clause-latest
returns-clause-latest c =
    let copies : List Granted = c.args.copies.now in
    IfOk-weaker c.shown.result _ _
    (λ rows is. subst (AreLatest copies)
    (sym (is ∙ ap (map shown_of) (sym (ap (latest_after c.copies.rows.entries) (nothing_left copies c.copies.copy-index c.copies-test.false)) ∙ c.copies.invariant)))
    (rows_are_latest copies))
    c.shown.ensures
