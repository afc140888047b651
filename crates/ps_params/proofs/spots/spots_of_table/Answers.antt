use Rattle.std.proofs.Common.{List, ◌∷◌, [], ◌++◌, sym, ap, ◌∙◌, subst}
use Rattle.ps_params.specs.Accesses.{Covers}
use Rattle.ps_params.specs.Places.{Spot}
use Rattle.ps_params.proofs.Covering.{table_covers}
use Rattle.ps_params.proofs.spots.spots_of_table.Goals as goal

pub returns : goal.returns
returns c =
    subst (λ (ss : List Spot). Covers c.args.kept.now.paths c.args.asker.now c.args.condition.now c.args.table.now ss)
    (sym (c.in_ok-push.ensures.ok ∙ ap (λ (ss : List Spot). ss ++ (c.in-Some.number, c.from_string.result) ∷ []) c.new-spots.ensures))
    (table_covers c.args.kept.now.paths c.args.asker.now c.args.condition.now c.args.table.now c.from_string.result c.in-Some.number c.in-Some.ensures (c.from_string.ensures ∙ c.new.ensures.bytes))
