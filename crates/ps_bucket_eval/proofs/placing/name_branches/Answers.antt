use Rattle.std.proofs.Common.{◌≡◌, false, true, arith, ◌∙◌}
use Rattle.ps_bucket_eval.specs.Shown.{alone}
use Rattle.ps_bucket_eval.specs.Solving.{branch_names}
use Rattle.ps_bucket_eval.proofs.Steps.{named_more, named_past}
use Rattle.ps_bucket_eval.proofs.Fitting.{fits_within, fits_past}
use Rattle.ps_bucket_eval.proofs.placing.name_branches.Goals as goal

pub returns-then-not-branch : goal.returns-then-not-branch
returns-then-not-branch c =
    let f = branch_names (alone c.args.source.now.id.now c.args.source.now.row.now) c.args.definition.now.name c.args.definition.now.names in
    let no : c.in_ok-name_branch.field-0 ≡ false = grind (arith, c.if-not-branch.true) in
    named_past f c.args.found.now.keys c.branches.found.keys c.args.branches.now c.branches.branch-index c.branch-item.result c.args.room c.branches-test.true c.branch-item.is c.branches.invariant.named
    (fits_past c.args.room c.branches.found.keys c.name_branch.new.found.keys (f c.branch-item.result) c.in_ok-name_branch.field-0 no c.in_ok-name_branch.ensures)

pub branches-preserved : goal.branches-preserved
branches-preserved c =
    let f = branch_names (alone c.args.source.now.id.now c.args.source.now.row.now) c.args.definition.now.name c.args.definition.now.names in
    let yes : c.in_ok-name_branch.field-0 ≡ true = grind (arith, c.if-not-branch.false) in
    let h = fits_within c.args.room c.branches.found.keys c.name_branch.new.found.keys (f c.branch-item.result) c.in_ok-name_branch.field-0 yes c.in_ok-name_branch.ensures in
    record {
      named = h.0 ∙ named_more f c.args.found.now.keys c.branches.found.keys c.args.branches.now c.branches.branch-index c.branch-item.result c.branches-test.true c.branch-item.is c.branches.invariant.named;
      within = h.1;
    }
