use Rattle.std.proofs.Common.{◌≡◌, ℕ, List, [], ◌∷◌, ◌++◌, Some, map, take, sym, ap, ◌∙◌, add-one, zero-add}
use Rattle.std.specs.Prelude.{if◌then◌else◌, slice_get}
use Rattle.ps_params.specs.Notes.{Note}
use Rattle.ps_params.specs.Kept.{note_of}
use Rattle.ps_params.specs.Places.{lies_at, places_from}
use Rattle.ps_params.proofs.Finding.{got_at, got_mapped, places_more}
use Rattle.ps_params.proofs.places.with_notes.Goals as goal

pub loop-place-preserved : goal.loop-place-preserved
loop-place-preserved c = λ number text.
    let k : ℕ = c.loop-place.place in
    let note : Note = note_of c.index-notes-place.result in
    let notes : List Note = map note_of c.args.notes.now in
    let is : slice_get notes k ≡ Some note =
    got_mapped note_of c.args.notes.now k c.index-notes-place.result (got_at c.args.notes.now k c.index-notes-place.result c.loop-place-test.true c.index-notes-place.is) in
    let so_far : List ℕ = places_from (lies_at c.args.paths.now number text) 0 (take k notes) in
    c.in_ok-add_note.ensures number text
    ∙ ap (λ (ps : List ℕ). if lies_at c.args.paths.now number text note then ps ++ k ∷ [] else ps) (c.loop-place.invariant number text)
    ∙ ap (λ (j : ℕ). if lies_at c.args.paths.now number text note then so_far ++ j ∷ [] else so_far) (sym (zero-add k))
    ∙ sym (places_more (lies_at c.args.paths.now number text) notes k 0 note is)
    ∙ ap (λ (j : ℕ). places_from (lies_at c.args.paths.now number text) 0 (take j notes)) (sym (add-one k))
