-- What a worker's turns add, one after another.
use Rattle.std.proofs.Common.{◌≡◌, ℕ, ◌+◌, Option, List, [], ◌∷◌, ◌++◌, length, refl, ap, sym, ◌∙◌, subst, append_assoc}
use Rattle.std.specs.List.{AllByRecursion}
use Rattle.std.proofs.lemmas.List.{append-nil, map-append}
use mathlib.Core.List.{IsPrefix}
use Rattle.ps_kept.specs.declared.values.Kept.{Ghosts}
use Rattle.ps_rows.specs.declared.changes.Transaction.{Transaction}
use Rattle.ps_lock.specs.declared.tables.Seat.{Seat}
use Rattle.ps_lock.specs.Words.{seen_by, own_entries_of}
use Rattle.ps_store.specs.declared.events.Event.{Event}
use Rattle.ps_store.specs.declared.events.Event.TheVariants.{Feed, Close, Write, Commit, Compact, WriteCheckpoint, Deploy, Build, Switch, Abandon}
use Rattle.ps_store.specs.LedgerLaws.{fed_in}
use Rattle.ps_workers.specs.declared.shared.Terms.{Terms}
use Rattle.ps_workers.specs.declared.stages.NextRules.{NextRules}
use Rattle.ps_workers.specs.Gains.{LooksAt, AddsTo}
use Rattle.ps_workers.specs.Work.{HasWorked, HasWritten, IsOfWriter, events_of}

-- ---- lists

pub prefix_self : {A : Type 0} (xs : List A) → IsPrefix xs xs
prefix_self xs = ([], append-nil xs)

pub prefix_then : {A : Type 0} (xs ys zs : List A) → IsPrefix xs ys → IsPrefix ys zs → IsPrefix xs zs
prefix_then xs ys zs p q = (p.0 ++ q.0, sym (append_assoc xs p.0 q.0) ∙ (ap (λ w. w ++ q.0) p.1 ∙ q.1))

pub prefix_more : {A : Type 0} (xs ys zs : List A) → IsPrefix xs ys → IsPrefix xs (ys ++ zs)
prefix_more xs ys zs p = (p.0 ++ zs, sym (append_assoc xs p.0 zs) ∙ ap (λ w. w ++ zs) p.1)

pub all_both : {X : Type 0} (P : X → Type 0) (xs ys : List X) → AllByRecursion P xs → AllByRecursion P ys → AllByRecursion P (xs ++ ys)
all_both P [] ys one two = two
all_both P (x ∷ xs) ys one two = (one.0, all_both P xs ys one.1 two)

pub all_along : {X : Type 0} (P Q : X → Type 0) → ((x : X) → P x → Q x) → (xs : List X) → AllByRecursion P xs → AllByRecursion Q xs
all_along P Q step [] all = tt
all_along P Q step (x ∷ xs) all = (step x all.0, all_along P Q step xs all.1)

fed_both : (xs ys : List Event) → fed_in (xs ++ ys) ≡ fed_in xs ++ fed_in ys
fed_both [] ys = refl
fed_both (Feed t ∷ xs) ys = ap (λ ts. t ∷ ts) (fed_both xs ys)
fed_both (Close ∷ xs) ys = fed_both xs ys
fed_both (Write n ∷ xs) ys = fed_both xs ys
fed_both (Commit ∷ xs) ys = fed_both xs ys
fed_both (Compact bucket ∷ xs) ys = fed_both xs ys
fed_both (WriteCheckpoint user client ∷ xs) ys = fed_both xs ys
fed_both (Deploy rules ∷ xs) ys = fed_both xs ys
fed_both (Build n ∷ xs) ys = fed_both xs ys
fed_both (Switch ∷ xs) ys = fed_both xs ys
fed_both (Abandon ∷ xs) ys = fed_both xs ys

events_both : (xs ys : List (Event × ℕ)) → events_of (xs ++ ys) ≡ events_of xs ++ events_of ys
events_both xs ys = map-append (λ (entry : Event × ℕ). entry.0) xs ys

-- ---- workers

module _ {V : Type 0} {d : Ghosts V Event Terms} (P : Event → Type 0) where
  pub worked_none : (seat : Seat V Event Terms d) → HasWorked P seat seat
  worked_none seat = record { saw = prefix_self (seen_by seat); gained = []; own = sym (append-nil (own_entries_of seat)); kinds = tt }

  pub worked_then : (before between after : Seat V Event Terms d) → HasWorked P before between → HasWorked P between after → HasWorked P before after
  worked_then before between after one two = record {
    saw = prefix_then (seen_by before) (seen_by between) (seen_by after) one.saw two.saw;
    gained = one.gained ++ two.gained;
    own = two.own ∙ (ap (λ entries. entries ++ two.gained) one.own ∙ append_assoc (own_entries_of before) one.gained two.gained);
    kinds = subst (AllByRecursion P) (sym (events_both one.gained two.gained)) (all_both P (events_of one.gained) (events_of two.gained) one.kinds two.kinds);
  }

  pub worked_looking : (history : List Event) (before after : Seat V Event Terms d) → LooksAt history before after → HasWorked P before after
  worked_looking history before after it = record {
    saw = subst (IsPrefix (seen_by before)) (sym it.seen) it.knew;
    gained = [];
    own = it.own ∙ sym (append-nil (own_entries_of before));
    kinds = tt;
  }

  pub worked_adding : (history : List Event) (entry : Event) (before after : Seat V Event Terms d) → P entry → AddsTo history entry before after → HasWorked P before after
  worked_adding history entry before after may it = record {
    saw = subst (IsPrefix (seen_by before)) (sym it.seen) (prefix_more (seen_by before) history (entry ∷ []) it.knew);
    gained = (entry, length history + 1) ∷ [];
    own = it.own;
    kinds = (may, tt);
  }

-- ---- writers

module _ {V : Type 0} {d : Ghosts V Event Terms} (next : Option NextRules) (batch : ℕ) where
  pub written_none : (seat : Seat V Event Terms d) → HasWritten next batch [] seat seat
  unfolding worked_none
  written_none seat = record { worked = worked_none (IsOfWriter next batch) seat; feeds = refl }

  pub written_looking : (history : List Event) (before after : Seat V Event Terms d) → LooksAt history before after → HasWritten next batch [] before after
  unfolding worked_looking
  written_looking history before after it = record { worked = worked_looking (IsOfWriter next batch) history before after it; feeds = refl }

  pub written_adding : (history : List Event) (entry : Event) (before after : Seat V Event Terms d) → IsOfWriter next batch entry → AddsTo history entry before after
      → HasWritten next batch (fed_in (entry ∷ [])) before after
  unfolding worked_adding
  written_adding history entry before after may it = record { worked = worked_adding (IsOfWriter next batch) history entry before after may it; feeds = refl }

  pub written_then : (fed more : List Transaction) (before between after : Seat V Event Terms d) → HasWritten next batch fed before between → HasWritten next batch more between after
      → HasWritten next batch (fed ++ more) before after
  unfolding worked_then
  written_then fed more before between after one two = record {
    worked = worked_then (IsOfWriter next batch) before between after one.worked two.worked;
    feeds =
        ap fed_in (events_both one.worked.gained two.worked.gained)
        ∙ (fed_both (events_of one.worked.gained) (events_of two.worked.gained) ∙ (ap (λ ts. ts ++ fed_in (events_of two.worked.gained)) one.feeds ∙ ap (λ ts. fed ++ ts) two.feeds));
  }

  -- nothing more is fed
  pub written_on : (fed : List Transaction) (before between after : Seat V Event Terms d) → HasWritten next batch fed before between → HasWritten next batch [] between after
      → HasWritten next batch fed before after
  written_on fed before between after one two = subst (λ ts. HasWritten next batch ts before after) (append-nil fed) (written_then fed [] before between after one two)
