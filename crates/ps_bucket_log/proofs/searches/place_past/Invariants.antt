use Rattle.std.proofs.Common.{◌≡◌, ℕ, ◌+◌, ◌-◌, ◌*◌, ◌^◌, ◌<◌, ◌≤◌, length, get_or}
use Rattle.ps_bucket_log.proofs.searches.place_past.Given as goal

-- the place is from low to high, and what is left halves with each look
abbrev pub invariant-halves : goal.invariant-halves
invariant-halves g l = record {
  within : l.high ≤ length l.all;
  ordered : l.low ≤ l.high;
  front : (k : ℕ) (d : g.row.T.Denot) → l.low ≡ k + 1 → g.T.Placed.id (get_or l.all k d) ≤ l.id.0;
  back : (d : g.row.T.Denot) → l.high < length l.all → l.id.0 < g.T.Placed.id (get_or l.all l.high d);
  counted : l.initial.steps ≤ l.steps;
  halved : 2 ^ (l.steps - l.initial.steps) * (l.high - l.low) ≤ length l.all;
  cost : 2 ^ (l.steps - l.initial.steps) ≤ 2 * length l.all + 1;
}

abbrev pub decreases-halves : goal.decreases-halves
decreases-halves g l = l.high - l.low
