use Rattle.std.proofs.Common.{◌≡◌}
use Rattle.ps_client_log.specs.Edits.{CanMakeAll, with_edits}
use Rattle.std.specs.List.{IsDistinct}
use Rattle.ps_client_log.specs.Soundness.{same_row}
use Rattle.ps_client_log.specs.Rooms.{kept_by, HasRoom}
use Rattle.ps_client_log.proofs.holdings.Holdings.make_all.Given as goal

-- the edits that are left lead to where all of them do, can be made, and have room
abbrev pub invariant-edits : goal.invariant-edits
invariant-edits l =
    (with_edits (kept_by l.self) l.edit-iterator.rest.items ≡ with_edits (kept_by l.initial.self) l.fn.edits.items)
    × CanMakeAll (kept_by l.self) l.edit-iterator.rest.items
    × HasRoom l.self l.edit-iterator.rest.items
    × (IsDistinct same_row l.initial.self.shown → IsDistinct same_row l.self.shown)
