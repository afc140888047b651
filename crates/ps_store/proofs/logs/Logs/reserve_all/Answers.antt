use Rattle.std.proofs.Common.{ℕ, ◌≤◌, List, max, subst}
use Rattle.std.specs.Prelude.{unwrap_or}
use Rattle.std.specs.Map.{lookup}
use Rattle.std.specs.Cmp.Lexicographic.{slice_cmp}
use Rattle.std.specs.Ordering.{nat_cmp, is_eq}
use Rattle.std.proofs.Common.{◌∙◌}
use Rattle.ps_store.specs.StoreLogs.{wanted, room_at}
use Rattle.ps_store.proofs.Filling.{rooms_more}
use Rattle.ps_store.proofs.logs.Logs.reserve_all.Goals as goal

pub rooms-preserved : goal.rooms-preserved
rooms-preserved c = record {
  logs = λ other. c.in_ok-reserve.ensures.logs other ∙ c.rooms.invariant.logs other;
  rooms = rooms_more (wanted c.args.rooms.now) (room_at c.rooms.self) (room_at c.reserve.new.self) c.in-Some.name.now c.in-Some.count.now c.next.new.self
      (λ name. c.in_ok-reserve.ensures.rooms name) c.in_ok-reserve.ensures.ok
      (λ name. subst (λ (es : List (List ℕ × ℕ)). wanted c.args.rooms.now name ≤ max (room_at c.rooms.self name) (unwrap_or (lookup (λ q. is_eq (slice_cmp nat_cmp name q)) es) 0)) c.in-Some.ensures.steps (c.rooms.invariant.rooms name));
}
