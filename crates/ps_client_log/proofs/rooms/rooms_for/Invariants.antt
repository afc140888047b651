use Rattle.std.proofs.Common.{◌≡◌, ℕ, List, take}
use Rattle.std.specs.Prelude.{sum_by}
use Rattle.ps_client_log.specs.Rooms.{brings, given}
use Rattle.ps_client_log.proofs.rooms.rooms_for.Given as goal

abbrev pub invariant-edits : goal.invariant-edits
invariant-edits l = (name : List ℕ) → given l.rooms name ≡ sum_by (brings name) (take l.edit-index l.edits)
