use Rattle.std.proofs.Common.{◌≡◌, ◌≤◌, ◌++◌, map, drop, length}
use Rattle.ps_session.specs.Matches.{match_of}
use Rattle.ps_session.proofs.Walks.{match_behind}
use Rattle.ps_session.proofs.matches.matches_among.Given as goal

-- what is found so far, and what the rest will find
abbrev pub invariant-buckets : goal.invariant-buckets
invariant-buckets l = record {
  within : l.at ≤ length l.others;
  found : l.found.items ++ map (match_behind l.at l.others) (drop l.bucket-index l.buckets) ≡ map (match_of l.others) l.buckets;
}
