use Rattle.std.proofs.Common.{◌≡◌, ◌≤◌, length, take}
use Rattle.std.specs.Prelude.{flat_map}
use Rattle.ps_bucket_eval.specs.Shown.{alone}
use Rattle.ps_bucket_eval.specs.Solving.{branch_names, inserted}
use Rattle.ps_bucket_eval.proofs.placing.name_branches.Given as goal

-- the names of the branches so far
abbrev pub invariant-branches : goal.invariant-branches
invariant-branches l = record {
  named : l.found.keys ≡ inserted l.fn.found.keys (flat_map (branch_names (alone l.source.id.now l.source.row.now) l.definition.name l.definition.names) (take l.branch-index l.branches));
  within : length l.found.keys ≤ l.room;
}
