-- A run is the longest that can be written, by its first change.
use Rattle.std.proofs.Common.{◌≡◌, ℕ, zero, suc, ◌+◌, ◌≤◌, true, false, List, [], ◌∷◌, Option, Some, None, length, take, refl, ap, ◌∙◌, sym, subst, arith}
use Rattle.std.specs.Prelude.{◌&&◌, is_none}
use Rattle.ps_store.specs.declared.fixed.Limits.{Limits}
use Rattle.ps_store.specs.declared.plans.Refusal.{Refusal}
use Rattle.ps_store.specs.Originals.{Timed}
use Rattle.ps_store.specs.Ledgers.{Ledger, write_next}
use Rattle.ps_store.specs.Runs.{Run, refusal_of, stopped, run_from}
use Rattle.ps_store.specs.LongestRuns.{can_be_written, IsLongest}

module _ (limits : Limits) where
  -- the count of a run that is counted from k on
  abbrev Counted : Ledger → ℕ → List Timed → ℕ → ℕ → Type 0
  Counted l k ts counted n = (counted ≡ k + n) × IsLongest limits l ts n

  module _ (l : Ledger) (k : ℕ) (t : Timed) (ts : List Timed) where
    later : (o : Option Refusal) → refusal_of limits l t ≡ o → (rest : Run) → (n : ℕ) → Counted (write_next l t) (k + 1) ts rest.count n
        → (m : ℕ) × Counted l k (t ∷ ts) (stopped l k o rest).count m
    later None is rest n more = (
      suc n,
      (
        omega (arith, more.0),
        record {
          within = omega (arith, more.1.within);
          can = ap (λ (o : Option Refusal). is_none o && can_be_written limits (write_next l t) (take n ts)) is ∙ more.1.can;
          no_more = none_more;
        },
      ),
    ) where
      none_more : (m : ℕ) → m ≤ length (t ∷ ts) → can_be_written limits l (take m (t ∷ ts)) ≡ true → m ≤ suc n
      none_more zero low can = omega arith
      none_more (suc m) low can =
          let rest_can : can_be_written limits (write_next l t) (take m ts) ≡ true =
          sym (ap (λ (o : Option Refusal). is_none o && can_be_written limits (write_next l t) (take m ts)) is) ∙ can in
          omega (arith, more.1.no_more m (omega (arith, low)) rest_can)
    later (Some refusal) is rest n more = (
      zero,
      (omega arith, record { within = omega arith; can = refl; no_more = none_more }),
    ) where
      none_more : (m : ℕ) → m ≤ length (t ∷ ts) → can_be_written limits l (take m (t ∷ ts)) ≡ true → m ≤ zero
      none_more zero low can = omega arith
      none_more (suc m) low can =
          let wrong : false ≡ true = sym (ap (λ (o : Option Refusal). is_none o && can_be_written limits (write_next l t) (take m ts)) is) ∙ can in
          absurd (cc)

  run_longest : (ts : List Timed) (l : Ledger) (k : ℕ) → (n : ℕ) × Counted l k ts (run_from limits l k ts).count n
  run_longest [] l k = (zero, (omega arith, record { within = omega arith; can = refl; no_more = λ m low can. low }))
  run_longest (t ∷ ts) l k =
      let more = run_longest ts (write_next l t) (k + 1) in
      later l k t ts (refusal_of limits l t) refl (run_from limits (write_next l t) (k + 1) ts) more.0 more.1

  pub longest : (l : Ledger) (ts : List Timed) → IsLongest limits l ts (run_from limits l 0 ts).count
  longest l ts =
      let found = run_longest ts l 0 in
      subst (IsLongest limits l ts) (sym (omega (arith, found.1.0))) found.1.1
