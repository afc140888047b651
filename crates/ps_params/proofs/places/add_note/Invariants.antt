use Rattle.std.proofs.Common.{◌≡◌, ℕ, List, ◌++◌, take}
use Rattle.std.specs.Prelude.{flat_map}
use Rattle.ps_params.specs.Kept.{note_of}
use Rattle.ps_params.specs.Places.{lies_at, places_at}
use Rattle.ps_params.proofs.Numbered.{here}
use Rattle.ps_params.proofs.places.add_note.Given as goal

-- the place is at each spot of the numbers so far
abbrev pub invariant-numbers : goal.invariant-numbers
invariant-numbers l = (number : ℕ) (text : List ℕ) → places_at l.found (number, text)
    ≡ places_at l.initial.found (number, text) ++ flat_map (here (lies_at l.paths number text (note_of l.note)) l.place number) (take l.number-index l.number-items)
