use Rattle.std.proofs.Common.{◌≡◌, ◌++◌, drop}
use Rattle.ps_segments.specs.Segmented.{ops_of, entries_of}
use Rattle.ps_segments.proofs.runs.copy_runs.Given as goal

abbrev pub invariant-sealed : goal.invariant-sealed
invariant-sealed l = l.all ++ ops_of (entries_of (drop l.segment-index l.sealed) l.growing) ≡ ops_of (entries_of l.sealed l.growing)
