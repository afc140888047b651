-- What one turn adds to a history stands in it past what was seen before.
use Rattle.std.proofs.Common.{◌≡◌, ℕ, ◌+◌, ◌≤◌, ◌<◌, true, false, List, [], ◌∷◌, ◌++◌, Some, Ok, Err, refl, sym, subst, ◌∙◌, arith, length, length-append}
use Rattle.std.specs.Prelude.{Result, slice_get}
use mathlib.Core.List.{IsPrefix}
use Rattle.ps_data.specs.declared.ids.Position.{Position}
use Rattle.ps_kept.specs.declared.values.Kept.{Ghosts}
use Rattle.ps_lock.specs.declared.tables.Seat.{Seat}
use Rattle.ps_lock.specs.Words.{own_entries_of, seen_by}
use Rattle.ps_lock.proofs.Prefixes.{get_last, prefix_length, prefix_more}
use Rattle.ps_rows.specs.declared.changes.Change.{Change}
use Rattle.ps_write_cp.specs.declared.faults.NumberFault.{NumberFault}
use Rattle.ps_write_cp.specs.declared.faults.NumberFault.TheVariants as numbering
use Rattle.ps_store.specs.declared.events.Event.{Event}
use Rattle.ps_store.specs.declared.faults.FeedFault.{FeedFault}
use Rattle.ps_store.specs.declared.faults.FeedFault.TheVariants as feeding
use Rattle.ps_store.specs.declared.fixed.Fixed.{Fixed}
use Rattle.ps_store.specs.Courses.{ledger_at}
use Rattle.ps_store.specs.CourseLaws.{EndsAreWhole, PlacesStay}
use Rattle.ps_store.specs.Ledgers.{Ledger, head_of, last_number, ledger_of}
use Rattle.ps_workers.specs.declared.shared.SharedStore.{SharedStore}
use Rattle.ps_workers.specs.declared.shared.Terms.{Terms}
use Rattle.ps_workers.specs.Gains.{AddsTo, LooksAt, NumbersIn, UploadsIn}
use Rattle.ps_serve.specs.Changing.{IsUploadAnswer}
use Rattle.ps_serve.specs.SharedAnswers.{Held, IsAdded, NumbersAt, UploadsAt}

module _ {d : Ghosts SharedStore Event Terms} (stay : PlacesStay) (whole : EndsAreWhole) (fixed : Fixed) (history : List Event) (before after : Seat SharedStore Event Terms d) where
  abbrev low : ℕ
  low = length (seen_by before)

  looks_saw : LooksAt history before after → IsPrefix (seen_by before) (seen_by after)
  looks_saw it = subst (λ (xs : List Event). IsPrefix (seen_by before) xs) (sym it.seen) it.knew

  adds_saw : (event : Event) → AddsTo history event before after → IsPrefix (seen_by before) (seen_by after)
  adds_saw event it = subst (λ (xs : List Event). IsPrefix (seen_by before) xs) (sym it.seen) (prefix_more (seen_by before) history (event ∷ []) it.knew)

  looks_held : (fact : Ledger → Type 0) → LooksAt history before after → fact (ledger_of fixed.rules history) → Held fixed low (seen_by after) fact
  looks_held fact it holds =
      subst (λ (xs : List Event). Held fixed low xs fact) (sym it.seen)
      (length history, prefix_length (seen_by before) history it.knew, omega arith, subst fact (sym (whole fixed.rules history)) holds)

  module _ (event : Event) (it : AddsTo history event before after) where
    added : IsAdded fixed low (seen_by after) event (own_entries_of before) (own_entries_of after)
    added = record {
      place = length history;
      later = prefix_length (seen_by before) history it.knew;
      within = subst (λ (xs : List Event). length history < length xs) (sym it.seen) (let count = length-append history (event ∷ []) in omega (arith, count));
      there = subst (λ (xs : List Event). slice_get xs (length history) ≡ Some event) (sym it.seen) (get_last history event);
      own_is = it.own;
    }

    added_fact : (fact : Ledger → Type 0) → fact (ledger_of fixed.rules history) → fact (ledger_at fixed.rules (seen_by after) (length history))
    added_fact fact holds =
        subst (λ (xs : List Event). fact (ledger_at fixed.rules xs (length history))) (sym it.seen)
        (subst fact (sym (stay fixed.rules history (event ∷ []) (length history) (omega arith) ∙ whole fixed.rules history)) holds)

  pub numbers_so : (user client : List ℕ) (made : Result ℕ NumberFault) → NumbersIn fixed history user client before after made
      → NumbersAt fixed low (seen_by after) user client (own_entries_of before) (own_entries_of after) made
  unfolding added
  numbers_so user client (Ok number) it = (
    added _ it.0,
    added_fact _ it.0 (λ l. number ≡ last_number l user client + 1) it.1,
    added_fact _ it.0 (λ l. last_number l user client < fixed.limits.numbers) it.2,
  )
  numbers_so user client (Err (numbering.NumberFull last)) it =
      (it.0.own, looks_held (λ l. (last ≡ last_number l user client) × (last ≡ fixed.limits.numbers)) it.0 (it.1, it.2))
  numbers_so user client (Err numbering.Memory) it = it.own

  pub numbers_saw : (user client : List ℕ) (made : Result ℕ NumberFault) → NumbersIn fixed history user client before after made → IsPrefix (seen_by before) (seen_by after)
  numbers_saw user client (Ok number) it = adds_saw _ it.0
  numbers_saw user client (Err (numbering.NumberFull last)) it = looks_saw it.0
  numbers_saw user client (Err numbering.Memory) it = looks_saw it

  pub uploads_so : (changes : List Change) (fed : Result Position FeedFault) → UploadsIn fixed history changes before after fed
      → UploadsAt fixed low (seen_by after) changes (own_entries_of before) (own_entries_of after) fed
  unfolding added
  uploads_so changes (Ok position) it = (
    added _ it.0,
    added_fact _ it.0 (λ l. position.0 ≡ head_of l.fed + 1) it.2,
    added_fact _ it.0 (λ l. head_of l.fed < fixed.limits.positions) it.1,
  )
  uploads_so changes (Err feeding.FeedClosed) it = (it.0.own, looks_held (λ l. l.closed ≡ true) it.0 it.1)
  uploads_so changes (Err (feeding.NotRising last given)) it = it
  uploads_so changes (Err (feeding.PositionFull head)) it =
      (it.0.own, looks_held (λ l. (l.closed ≡ false) × (fixed.limits.positions ≤ head_of l.fed) × (head.0 ≡ head_of l.fed)) it.0 (it.1, it.2, it.3))
  uploads_so changes (Err feeding.Memory) it = it.own

  pub uploads_saw : (changes : List Change) (fed : Result Position FeedFault) → UploadsIn fixed history changes before after fed → IsPrefix (seen_by before) (seen_by after)
  uploads_saw changes (Ok position) it = adds_saw _ it.0
  uploads_saw changes (Err feeding.FeedClosed) it = looks_saw it.0
  uploads_saw changes (Err (feeding.NotRising last given)) it = absurd it
  uploads_saw changes (Err (feeding.PositionFull head)) it = looks_saw it.0
  uploads_saw changes (Err feeding.Memory) it = looks_saw it

  pub upload_answers : (changes : List Change) (fed : Result Position FeedFault) → UploadsIn fixed history changes before after fed → IsUploadAnswer fed
  upload_answers changes (Ok position) it = tt
  upload_answers changes (Err feeding.FeedClosed) it = tt
  upload_answers changes (Err (feeding.NotRising last given)) it = it
  upload_answers changes (Err (feeding.PositionFull head)) it = tt
  upload_answers changes (Err feeding.Memory) it = tt
