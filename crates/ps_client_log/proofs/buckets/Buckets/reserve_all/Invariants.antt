use Rattle.std.proofs.Common.{◌≡◌, ℕ, ◌≤◌, List, max}
use Rattle.std.specs.Prelude.{bytes_eq, unwrap_or}
use Rattle.std.specs.Map.{lookup}
use Rattle.ps_client_log.specs.Images.{bucket_found, room_for}
use Rattle.ps_client_log.specs.Rooms.{given}
use Rattle.ps_client_log.proofs.buckets.Buckets.reserve_all.Given as goal

-- the buckets stay, and each name has its room by now or is among the names that are left
abbrev pub invariant-rooms : goal.invariant-rooms
invariant-rooms l =
    ((other : List ℕ) → bucket_found l.self other ≡ bucket_found l.initial.self other)
    × ((name : List ℕ) → given l.rooms name ≤ max (room_for l.self name) (unwrap_or (lookup (bytes_eq name) l.name-iterator) 0))
