use Rattle.std.proofs.Common.{◌≡◌, ap, ◌∙◌, map, take, arith, subst}
use Rattle.std.specs.List.{All}
use Rattle.std.proofs.lemmas.Grind.{common_steps}
use Rattle.std.proofs.lemmas.List.Elements.{All-more}
use Rattle.serde_json.specs.Data.{array}
use Rattle.serde_json.specs.View.{items_of}
use Rattle.serde_json.proofs.Views.{view-Array}
use Rattle.ps_changes.specs.Grammar.{IsChange}
use Rattle.ps_changes.specs.Writing.{change_json}
use Rattle.ps_changes.specs.Types.{Change}
use Rattle.ps_changes.proofs.Written.{changes_spelled}
use Rattle.ps_changes.proofs.writers.list_json.Goals as goal

abbrev Spelled : Change → Type 0
Spelled change = IsChange (change_json change) change

pub changes-preserved : goal.changes-preserved
changes-preserved c = record {
  made = let made = c.changes.invariant.made in grind (arith, common_steps, made);
  spelled = All-more Spelled c.args.changes.now c.changes.change-index c.change-item.result (omega arith) c.changes.invariant.spelled (subst Spelled c.change-item.is c.in_ok-change_json.ensures.spelled);
}

pub returns-clause-value : goal.returns-clause-value
returns-clause-value c =
    let all : take c.changes.change-index c.args.changes.now ≡ c.args.changes.now = grind (arith, common_steps) in
    view-Array c.changes.list ∙ ap (λ ds. array (items_of ds)) (c.changes.invariant.made ∙ ap (λ xs. map change_json xs) all)

pub returns-clause-spelled : goal.returns-clause-spelled
returns-clause-spelled c =
    let all : take c.changes.change-index c.args.changes.now ≡ c.args.changes.now = grind (arith, common_steps) in
    changes_spelled c.args.changes.now (subst (λ xs. All Spelled xs) all c.changes.invariant.spelled)
