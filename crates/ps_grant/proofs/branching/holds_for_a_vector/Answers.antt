use Rattle.std.proofs.Common.{◌≡◌, List, ◌∙◌, subst}
use Rattle.std.specs.Prelude.{IfOk}
use Rattle.ps_data.specs.declared.values.Value.{Value}
use Rattle.ps_queries.specs.Meaning.{Given}
use Rattle.ps_granted.specs.Grants.{given_for}
use Rattle.ps_queries.specs.Vectors.{at_row}
use Rattle.ps_grant.proofs.BranchLaws.{unbound, condition_by_branches}
use Rattle.ps_grant.proofs.branching.holds_for_a_vector.Goals as goal

pub returns : goal.returns
returns c =
    let given : List Value → Given = λ v. given_for c.args.asker.now c.args.names.now (at_row c.args.id.now c.args.row.now) v in
    subst (λ b. IfOk c.some_branch_is_met.result (λ held. held ≡ b))
    (condition_by_branches c.conditions_hold_where_a_branch_is_met.ensures.same given c.args.planned.now.query.condition c.as_slice.result.now c.args.vectors.now (c.as_slice.ensures ∙ c.requires.sound.branches))
    c.some_branch_is_met.ensures

pub some_branch_is_met-requires-clause-unbound : goal.some_branch_is_met-requires-clause-unbound
some_branch_is_met-requires-clause-unbound c =
    unbound c.spread_as_written.ensures.either c.spread_as_written.ensures.both c.spread_as_written.ensures.leaf c.args.names.now c.args.planned.now c.as_slice.result.now c.requires.sound c.as_slice.ensures
