-- The change that is uploaded next.
use Rattle.std.specs.Prelude.{◌≡◌, ◌<◌, List, [], ◌∷◌, length, Option, Some, None}
use Rattle.ps_rows.specs.declared.changes.Change.{Change}

-- the oldest of a queue, by itself
abbrev pub NextIs : List Change → Option (List Change) → Type 0
NextIs queue None = queue ≡ []
NextIs [] (Some changes) = ⊥
NextIs (change ∷ queue) (Some changes) = (changes ≡ change ∷ []) × (0 < length change.table)
