-- A statement in a transaction leaves what a rollback goes back to.
use Rattle.std.proofs.Common.{ℕ, List, inl, inr, Ok, Err, Result, refl}
use Rattle.sqlite.specs.declared.error.Error.{Error}
use Rattle.sqlite.specs.Order.{Row}
use Rattle.sqlite.specs.State.{State, ExecutesInside, KeepsCommit}

pub kept_inside : (held : ℕ) (sql : List ℕ) (params : Row) (old new : State) (r : Result ℕ Error) → ExecutesInside held sql params old new r → KeepsCommit old new
kept_inside held sql params old new (Ok count) h = record { was_open = λ _. h.1.was_open; committed = λ _. h.1.committed_is }
kept_inside held sql params old new (Err e) (inl ran) = elim ran.1 [
  | inl same ↦ record { was_open = λ _. same.0.was_open; committed = λ _. same.0.committed_is }
  | inr undone ↦ record { was_open = undone.was_open; committed = λ open'. (undone.undone open').1 }
]
kept_inside held sql params old new (Err e) (inr late) = record { was_open = λ _. late.2.0.was_open; committed = λ _. late.2.0.committed_is }

pub kept_same : (s : State) → KeepsCommit s s
kept_same s = record { was_open = λ h. h; committed = λ _. refl }
