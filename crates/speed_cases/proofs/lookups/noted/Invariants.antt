use Rattle.std.proofs.Common.{◌≡◌, ◌≤◌}
use Rattle.speed_cases.proofs.lookups.noted.Given as goal

-- nothing is noted past the first position, and nothing is forgotten
abbrev pub invariant-rows : goal.invariant-rows
invariant-rows l = (l.index.last ≤ 1) × (l.index.rules ≡ l.rules) × (l.index.forgotten ≡ 0)
