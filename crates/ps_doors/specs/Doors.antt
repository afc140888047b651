-- What doors and links answer.
use Rattle.std.specs.Prelude.{◌≡◌, ℕ, ◌+◌, List, [], ◌∷◌, Option, Some, None, Result, Ok, Err}
use Rattle.ps_io.specs.Sources.{Input, unread}
use Rattle.ps_io.specs.declared.outputs.Failed.{Failed}
use Rattle.ps_io.specs.declared.sources.Source as Source

-- how many connections were handed out by then, with this answer of `next`
abbrev pub opened_after : {C : Type 0} → ℕ → Result (Option C) Failed → ℕ
opened_after opened (Ok (Some connection)) = opened + 1
opened_after opened (Ok None) = opened
opened_after opened (Err failed) = opened

module _ {S K : Type 0} (g : Source.Ghosts S) where
  -- of the connections that are to come, each told by the bytes that its source has, `next` answers the first; it answers that none is to come where there is none, and a failure takes none
  abbrev pub Comes : Option (List (List ℕ)) → Option (List (List ℕ)) → Result (Option (S × K)) Failed → Type 0
  Comes None after answer = after ≡ None
  Comes (Some coming) after (Err failed) = after ≡ Some coming
  Comes (Some []) after (Ok None) = after ≡ Some []
  Comes (Some []) after (Ok (Some ends)) = ⊥
  Comes (Some (bytes ∷ coming)) after (Ok None) = ⊥
  Comes (Some (bytes ∷ coming)) after (Ok (Some ends)) = (after ≡ Some coming) × (g.input ends.0 ≡ Some (unread bytes))
