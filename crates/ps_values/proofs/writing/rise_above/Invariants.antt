use Rattle.std.proofs.Common.{drop}
use Rattle.ps_values.specs.Writing.{RiseAbove}
use Rattle.ps_values.proofs.writing.rise_above.Given as goal

-- they all rise, if those that are left do
abbrev pub invariant-columns : goal.invariant-columns
invariant-columns l = RiseAbove l.last (drop l.column-index l.columns) → RiseAbove l.first l.columns
