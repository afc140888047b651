use Rattle.std.proofs.Common.{◌≡◌, ℕ, ◌≤◌, List, max}
use Rattle.std.specs.Prelude.{unwrap_or}
use Rattle.std.specs.Map.{lookup}
use Rattle.std.specs.Cmp.Lexicographic.{slice_cmp}
use Rattle.std.specs.Ordering.{nat_cmp, is_eq}
use Rattle.ps_store.specs.StoreLogs.{wanted, log_at, room_at}
use Rattle.ps_store.proofs.logs.Logs.reserve_all.Given as goal

-- the logs stay, and each name has its room by now or is among the names that are left
abbrev pub invariant-rooms : goal.invariant-rooms
invariant-rooms l = record {
  logs : (other : List ℕ) → log_at l.self other ≡ log_at l.initial.self other;
  rooms : (name : List ℕ) → wanted l.rooms name ≤ max (room_at l.self name) (unwrap_or (lookup (λ q. is_eq (slice_cmp nat_cmp name q)) l.name-iterator) 0);
}
