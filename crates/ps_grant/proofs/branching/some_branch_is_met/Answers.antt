use Rattle.std.proofs.Common.{List, drop, ◌+◌, sym, ap, ◌∙◌}
use Rattle.std.specs.Prelude.{◌||◌}
use Rattle.std.specs.List.{list_any}
use Rattle.ps_data.specs.declared.values.Value.{Value}
use Rattle.ps_queries.specs.Meaning.{Given}
use Rattle.ps_definitions.specs.declared.branches.Branch.{Branch}
use Rattle.ps_definitions.specs.Meeting.{meets_some}
use Rattle.ps_granted.specs.Grants.{given_for}
use Rattle.ps_grant.specs.Solving.{IsUnbound}
use Rattle.ps_queries.specs.Vectors.{at_row}
use Rattle.ps_grant.proofs.BranchLaws.{some_branch, none_of}
use Rattle.ps_grant.proofs.StepLaws.{next_is, holds_later, nothing_left}
use Rattle.ps_grant.proofs.branching.some_branch_is_met.Goals as goal

pub returns-then-branch : goal.returns-then-branch
returns-then-branch c =
    let given : List Value → Given = λ v. given_for c.args.asker.now c.args.names.now (at_row c.args.id.now c.args.row.now) v in
    let left : List Branch = drop (c.branches.branch-index + 1) c.args.branches.now in
    sym (c.branches.invariant.met
    ∙ ap (λ (bs : List Branch). list_any (λ v. meets_some (given v) bs) c.args.vectors.now) (next_is c.args.branches.now c.branches.branch-index c.branch-item.result c.branches-test.true c.branch-item.is)
    ∙ some_branch given c.branch-item.result left c.args.vectors.now
    ∙ ap (λ b. b || list_any (λ v. meets_some (given v) left) c.args.vectors.now) (sym c.in_ok-branch_is_met.ensures ∙ c.if-branch.true))

pub branches-preserved : goal.branches-preserved
branches-preserved c =
    let given : List Value → Given = λ v. given_for c.args.asker.now c.args.names.now (at_row c.args.id.now c.args.row.now) v in
    let left : List Branch = drop (c.branches.branch-index + 1) c.args.branches.now in
    record {
      met = c.branches.invariant.met
          ∙ ap (λ (bs : List Branch). list_any (λ v. meets_some (given v) bs) c.args.vectors.now) (next_is c.args.branches.now c.branches.branch-index c.branch-item.result c.branches-test.true c.branch-item.is)
          ∙ some_branch given c.branch-item.result left c.args.vectors.now
          ∙ ap (λ b. b || list_any (λ v. meets_some (given v) left) c.args.vectors.now) (sym c.in_ok-branch_is_met.ensures ∙ c.if-branch.false);
      unbound = holds_later c.args.branches.now c.branches.branch-index c.branch-item.result c.branches-test.true c.branch-item.is IsUnbound c.branches.invariant.unbound;
    }

pub returns : goal.returns
returns c =
    let given : List Value → Given = λ v. given_for c.args.asker.now c.args.names.now (at_row c.args.id.now c.args.row.now) v in
    sym (c.branches.invariant.met
    ∙ ap (λ (bs : List Branch). list_any (λ v. meets_some (given v) bs) c.args.vectors.now) (nothing_left c.args.branches.now c.branches.branch-index c.branches-test.false)
    ∙ none_of c.args.vectors.now)
