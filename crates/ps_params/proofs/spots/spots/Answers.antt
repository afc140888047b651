use Rattle.std.proofs.Common.{◌≡◌, ℕ, List, Option, Some, sym, ap, ◌∙◌, subst}
use Rattle.std.specs.Prelude.{slice_get}
use Rattle.ps_queries.specs.declared.expressions.Expr.{Expr}
use Rattle.ps_params.specs.declared.paths.Path.{Path}
use Rattle.ps_params.specs.Accesses.{Covers}
use Rattle.ps_params.specs.Places.{Spot}
use Rattle.ps_params.specs.Spots.{spots_for}
use Rattle.ps_params.proofs.Covering.{path_covers}
use Rattle.ps_params.proofs.spots.spots.Goals as goal

pub returns : goal.returns
returns c =
    let path : slice_get c.args.kept.now.paths c.in-Some-path.number ≡ Some (record { table = c.args.table.now; column = Some c.in-Some-access_of.access.column.now }) =
    c.in-Some-path.ensures ∙ ap (λ (column : List ℕ). let path : Path = record { table = c.args.table.now; column = Some column } in Some path) c.as_str.ensures.value in
    subst (λ (o : Option Expr). Covers c.args.kept.now.paths c.args.asker.now o c.args.table.now c.in_ok-spots.spots) (sym c.in-Some.is)
    (subst (λ (ss : List Spot). Covers c.args.kept.now.paths c.args.asker.now (Some c.in-Some.held) c.args.table.now ss)
    (sym (c.in_ok-spots.ensures ∙ ap (spots_for c.in-Some-path.number) (c.as_slice.ensures ∙ c.in_ok-values.ensures)))
    (path_covers c.same_on_every_row.ensures c.args.kept.now.paths c.args.asker.now c.in-Some.held c.args.table.now c.in-Some-access_of.access.column.now c.in-Some-access_of.access.other.now c.in-Some-access_of.access.listed
    c.in-Some-path.number c.in-Some-access_of.ensures path))
