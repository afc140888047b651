use Rattle.std.proofs.Common.{List, ap, ◌∙◌}
use Rattle.std.specs.Prelude.{◌&&◌}
use Rattle.std.specs.List.{list_any}
use Rattle.ps_data.specs.declared.values.Value.{Value}
use Rattle.ps_grant.specs.Solving.{is_same, all_allow, AreSolved}
use Rattle.ps_grant.proofs.SolveLaws.{known_same, solved_some}
use Rattle.ps_grant.proofs.branching.some_allowed.Goals as goal

pub returns-in-Some : goal.returns-in-Some
returns-in-Some c =
    let found : AreSolved c.args.all.now c.args.names.now c.in-Some.listed = solved_some c.args.all.now c.args.names.now c.in_ok-listed.field-0 c.in-Some.listed c.in-Some.is c.in_ok-listed.ensures in
    c.any_known.ensures
    ∙ ap (λ (xs : List (List Value)). list_any (λ (v : List Value). list_any (is_same v) c.args.vectors.now && all_allow c.args.names.now c.args.all.now v) xs) (c.as_slice.ensures ∙ found.vectors_are)
    ∙ known_same c.equal_where_both_are_present.ensures c.compare_is_a_total_order.ensures.ties c.args.names.now c.args.all.now c.args.vectors.now c.requires.differ c.requires.long found.matched
