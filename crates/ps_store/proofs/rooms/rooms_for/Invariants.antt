use Rattle.std.proofs.Common.{◌≡◌, ℕ, List, take, length}
use Rattle.ps_store.specs.Originals.{in_bucket}
use Rattle.ps_store.specs.StoreLogs.{wanted}
use Rattle.ps_store.proofs.rooms.rooms_for.Given as goal

abbrev pub invariant-entered : goal.invariant-entered
invariant-entered l = (name : List ℕ) → wanted l.rooms name ≡ length (in_bucket name (take l.e-index l.entered))
