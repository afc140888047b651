-- A generation's changes are planned without its mark, and as if each id so far were of a Write.
use Rattle.std.proofs.Common.{◌≡◌, ℕ, zero, suc, ◌+◌, ◌≤◌, ◌<◌, max, Bool, true, false, Option, Some, None, List, [], ◌∷◌, ◌++◌, refl, sym, ap, ◌∙◌, subst, length, map, fold, arith, inl, inr}
use Rattle.std.specs.Prelude.{◌⊎◌, ◌==◌, nat_lt, if◌then◌else◌}
use Rattle.std.proofs.lemmas.Bool.Decides.{nat_tests}
use Rattle.ps_store.specs.declared.fixed.Limits.{Limits}
use Rattle.ps_store.specs.declared.plans.Refusal.{Refusal}
use Rattle.ps_store.specs.declared.plans.Refusal.TheVariants.{TooWide, OpsFull}
use Rattle.ps_store.specs.Generations.{mark_of, Lane, step_lane}
use Rattle.ps_store.specs.Ledgers.{Ledger, entries_after, next_ops, newest_of, write_next}
use Rattle.ps_store.specs.Originals.{Entered, Timed, key_of, entries_at, change_ops}
use Rattle.ps_store.specs.Runs.{Run, refusal_of, stopped, run_from, ops_from, lasts_from}
use Rattle.ps_store.specs.Steps.{marked}
use Rattle.ps_store.proofs.Lanes.{unmarked}
use Rattle.ps_store.proofs.Marks.{marked_append}

-- a ledger is that of another, but for the mark
pub record IsPlain (k b : Ledger) : Type 0 where
  pub force : b.force ≡ record k.force { number = 1 }
  pub last : b.last ≡ k.last

abbrev own : Ledger → Timed → List Entered
own k t = change_ops k.force.rules.definitions k.force.source (k.last + 1) t

length_marked : (mark : List ℕ) (es : List Entered) → length (marked mark es) ≡ length es
length_marked mark [] = refl
length_marked mark (e ∷ es) = ap suc (length_marked mark es)

plain_ops : (k b : Ledger) (t : Timed) → IsPlain k b → next_ops b t ≡ own k t
plain_ops k b t h =
    (λ i. marked (mark_of (h.force i).number) (change_ops (h.force i).rules.definitions (h.force i).source (h.last i + 1) t)) ∙ unmarked (own k t)

pub plain_marked : (k b : Ledger) (t : Timed) → IsPlain k b → next_ops k t ≡ marked (mark_of k.force.number) (next_ops b t)
plain_marked k b t h = ap (marked (mark_of k.force.number)) (sym (plain_ops k b t h))

plain_length : (k b : Ledger) (t : Timed) → IsPlain k b → length (next_ops k t) ≡ length (next_ops b t)
plain_length k b t h = ap length (plain_marked k b t h) ∙ length_marked (mark_of k.force.number) (next_ops b t)

plain_last : (k b : Ledger) (t : Timed) → IsPlain k b → b.last + length (next_ops b t) ≡ k.last + length (next_ops k t)
plain_last k b t h = omega (arith, h.last, plain_length k b t h)

pub plain_next : (k b : Ledger) (t : Timed) → IsPlain k b → IsPlain (write_next k t) (write_next b t)
plain_next k b t h = record {
  force = λ i. step_lane (h.force i) (h.last i) t;
  last = plain_last k b t h;
}

-- ---- what can be written

plain_refusal : (limits : Limits) (k b : Ledger) (t : Timed) → IsPlain k b → refusal_of limits k t ≡ refusal_of limits b t
plain_refusal limits k b t h =
    let wide : length (entries_after k t) ≡ length (entries_after b t) = ap (λ (f : Lane). length (entries_at f.rules.definitions (key_of t) t.change.row)) (sym h.force) in
    let full : k.last + length (next_ops k t) ≡ b.last + length (next_ops b t) = sym (plain_last k b t h) in
    λ i. if nat_lt limits.entries (wide i) then Some (TooWide (limits.entries + 1)) else if nat_lt limits.ops (full i) then Some OpsFull else None

pub record SameRun (r s : Run) : Type 0 where
  pub count : r.count ≡ s.count
  pub refusal : r.refusal ≡ s.refusal

stopped_same : (o : Option Refusal) (l m : Ledger) (count : ℕ) (r s : Run) → SameRun r s → SameRun (stopped l count o r) (stopped m count o s)
stopped_same None l m count r s h = h
stopped_same (Some refusal) l m count r s h = record { count = refl; refusal = refl }

pub plain_run : (limits : Limits) (ts : List Timed) (k b : Ledger) (count : ℕ) → IsPlain k b → SameRun (run_from limits k count ts) (run_from limits b count ts)
plain_run limits [] k b count h = record { count = refl; refusal = refl }
plain_run limits (t ∷ ts) k b count h =
    subst (λ (o : Option Refusal). SameRun (run_from limits k count (t ∷ ts)) (stopped b count o (run_from limits (write_next b t) (count + 1) ts))) (plain_refusal limits k b t h)
    (stopped_same (refusal_of limits k t) k b count (run_from limits (write_next k t) (count + 1) ts) (run_from limits (write_next b t) (count + 1) ts)
    (plain_run limits ts (write_next k t) (write_next b t) (count + 1) (plain_next k b t h)))

-- ---- what is written

pub plain_from : (ts : List Timed) (k b : Ledger) → IsPlain k b → ops_from k ts ≡ marked (mark_of k.force.number) (ops_from b ts)
plain_from [] k b h = refl
plain_from (t ∷ ts) k b h =
    (λ i. plain_marked k b t h i ++ plain_from ts (write_next k t) (write_next b t) (plain_next k b t h) i)
    ∙ sym (marked_append (mark_of k.force.number) (next_ops b t) (ops_from (write_next b t) ts))

-- ---- the last ids of Writes

-- no id was given since a last id, or the last one is a Write's
abbrev pub Since : ℕ → ℕ → Ledger → Type 0
Since newest wrote k = ((k.last ≡ newest) × (k.wrote ≡ wrote)) ⊎ ((newest < k.last) × (k.wrote ≡ k.last))

abbrev kept_id : ℕ → ℕ → ℕ → ℕ
kept_id newest wrote id = if id == newest then wrote else id

newest_nothing : (last : ℕ) (ops : List Entered) → length ops ≡ 0 → newest_of last ops ≡ 0
newest_nothing last [] none = refl
newest_nothing last (e ∷ es) none = absurd (omega (arith, none))

newest_some : (last : ℕ) (ops : List Entered) → 0 < length ops → newest_of last ops ≡ last + length ops
newest_some last [] some = absurd (omega (arith, some))
newest_some last (e ∷ es) some = refl

some_or_none : (n : ℕ) → (n ≡ 0) ⊎ (0 < n)
some_or_none zero = inl refl
some_or_none (suc n) = inr (omega arith)

-- a Write's last id is at most the last one
since_next : (newest wrote : ℕ) (k : Ledger) (t : Timed) → wrote ≤ newest → Since newest wrote k → Since newest wrote (write_next k t)
since_next newest wrote k t low h = by (some_or_none (length (next_ops k t))) h
  where
    by : (length (next_ops k t) ≡ 0) ⊎ (0 < length (next_ops k t)) → Since newest wrote k → Since newest wrote (write_next k t)
    by (inl none) (inl g) = inl (omega (arith, g.0, none), omega (arith, g.1, newest_nothing k.last (next_ops k t) none))
    by (inl none) (inr g) = inr (omega (arith, g.0, none), omega (arith, g.1, none, newest_nothing k.last (next_ops k t) none))
    by (inr some) (inl g) = inr (omega (arith, g.0, some), omega (arith, g.0, g.1, low, newest_some k.last (next_ops k t) some))
    by (inr some) (inr g) = inr (omega (arith, g.0, some), omega (arith, g.1, some, newest_some k.last (next_ops k t) some))

pub since_all : (newest wrote : ℕ) → wrote ≤ newest → (ts : List Timed) (k : Ledger) → Since newest wrote k → Since newest wrote (fold write_next k ts)
since_all newest wrote low [] k h = h
since_all newest wrote low (t ∷ ts) k h = since_all newest wrote low ts (write_next k t) (since_next newest wrote k t low h)

eq_is : (a b : ℕ) → a ≡ b → (a == b) ≡ true
eq_is a b h = grind (arith, nat_tests)

past_is : (a b : ℕ) → b < a → (a == b) ≡ false
past_is a b h = grind (arith, nat_tests)

since_kept : (newest wrote : ℕ) (k : Ledger) → Since newest wrote k → k.wrote ≡ kept_id newest wrote k.last
since_kept newest wrote k (inl g) = g.1 ∙ sym (ap (λ (b : Bool). if b then wrote else k.last) (eq_is k.last newest g.0))
since_kept newest wrote k (inr g) = g.1 ∙ sym (ap (λ (b : Bool). if b then wrote else k.last) (past_is k.last newest g.0))

-- by a plan in which each id is of a Write, the last ids of Writes are its last ids, but for those that are the one before
pub plain_lasts : (newest wrote : ℕ) → wrote ≤ newest → (ts : List Timed) (k b : Ledger) → IsPlain k b → b.wrote ≡ b.last → Since newest wrote k
    → lasts_from k ts ≡ map (kept_id newest wrote) (lasts_from b ts)
plain_lasts newest wrote low [] k b h all since = refl
plain_lasts newest wrote low (t ∷ ts) k b h all since =
    let next : IsPlain (write_next k t) (write_next b t) = plain_next k b t h in
    let later : Since newest wrote (write_next k t) = since_next newest wrote k t low since in
    let wrote_all : (write_next b t).wrote ≡ (write_next b t).last = ap (λ (n : ℕ). max n (newest_of b.last (next_ops b t))) all ∙ greatest_id b.last (next_ops b t) in
    let here : (write_next k t).wrote ≡ kept_id newest wrote (write_next b t).wrote =
    since_kept newest wrote (write_next k t) later ∙ ap (kept_id newest wrote) (sym next.last ∙ sym wrote_all) in
    λ i. here i ∷ plain_lasts newest wrote low ts (write_next k t) (write_next b t) next wrote_all later i
  where
    greatest_id : (last : ℕ) (ops : List Entered) → max last (newest_of last ops) ≡ last + length ops
    greatest_id last [] = omega arith
    greatest_id last (e ∷ es) = omega arith
