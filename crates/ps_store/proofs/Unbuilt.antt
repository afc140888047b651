-- Why no change of a queue is taken, in the words of the fault.
use Rattle.std.proofs.Common.{◌≡◌, ℕ, zero, suc, ◌+◌, ◌≤◌, ◌<◌, inl, inr, Bool, true, false, Option, Some, None, List, [], ◌∷◌, refl, sym, ap, ◌∙◌, subst, length, take, arith}
use Rattle.std.specs.Prelude.{◌≢◌, if◌then◌else◌, nat_lt, IsSome}
use Rattle.std.proofs.lemmas.Bool.Decides.{nat_tests}
use Rattle.ps_data.specs.declared.ids.OpId.{OpId}
use Rattle.ps_store.specs.declared.deploying.BuildFault.{BuildFault}
use Rattle.ps_store.specs.declared.deploying.BuildFault.TheVariants as building
use Rattle.ps_store.specs.declared.fixed.Limits.{Limits}
use Rattle.ps_store.specs.declared.plans.Refusal.{Refusal}
use Rattle.ps_store.specs.declared.plans.Refusal.TheVariants.{TooWide, OpsFull}
use Rattle.ps_store.specs.Deploys.{as_force, IsUnbuilt, IsWideAt, IsNamedOf}
use Rattle.ps_store.specs.Generations.{Coming, queue_in}
use Rattle.ps_store.specs.Ledgers.{Ledger, entries_after, next_ops, write_next}
use Rattle.ps_store.specs.Originals.{Timed}
use Rattle.ps_store.specs.Runs.{Run, refusal_of, stopped, run_from}
use Rattle.ps_store.proofs.Lanes.{run_is_front}

is_less : (a b : ℕ) → nat_lt a b ≡ true → a < b
is_less a b h = grind (arith, nat_tests)

not_less : (a b : ℕ) → nat_lt a b ≡ false → b ≤ a
not_less a b h = grind (arith, nat_tests)

same_first : (a b : Timed) (xs ys : List Timed) → (a ∷ xs) ≡ (b ∷ ys) → a ≡ b
same_first a b xs ys h = cc

first_there : (a : Timed) (xs : List Timed) → (a ∷ xs) ≡ [] → ⊥
first_there a xs h = absurd (cc)

-- a fault that is another one than that none is being built
abbrev pub IsOther : Limits → Ledger → BuildFault → Type 0
IsOther limits l fault = (fault ≢ building.NothingBuilding) × IsUnbuilt limits l fault

no_memory : building.Memory ≡ building.NothingBuilding → ⊥
no_memory e = cc

no_nothing : building.NothingToBuild ≡ building.NothingBuilding → ⊥
no_nothing e = cc

no_wide : (table id : List ℕ) (count : ℕ) → building.TooWide table id count ≡ building.NothingBuilding → ⊥
no_wide table id count e = cc

no_full : (last : OpId) → building.OpsFull last ≡ building.NothingBuilding → ⊥
no_full last e = cc

module _ (limits : Limits) (l : Ledger) (coming : Coming) (is_built : l.building ≡ Some coming) (queue : List Timed) (held : queue ≡ coming.queue) (last : OpId) (last_is : last.0 ≡ l.last) where
  abbrev k : Ledger
  k = as_force coming l

  there : IsSome l.building
  there = subst (λ (o : Option Coming). IsSome o) (sym is_built) refl

  queue_is : queue_in l.building ≡ coming.queue
  queue_is = ap queue_in is_built

  pub nothing_left : queue ≡ [] → IsOther limits l building.NothingToBuild
  nothing_left empty = (no_nothing, (there, queue_is ∙ sym held ∙ empty))

  pub wanting : (queue ≡ [] → ⊥) → IsOther limits l building.Memory
  wanting some = (no_memory, (there, λ none. some (held ∙ sym queue_is ∙ none)))

  none : (fault : BuildFault) → coming.queue ≡ [] → fault ≡ building.NothingToBuild → IsOther limits l fault
  none fault empty is = subst (IsOther limits l) (sym is) (nothing_left (held ∙ empty))

  wide : (fault : BuildFault) (t : Timed) (ts : List Timed) → coming.queue ≡ t ∷ ts → limits.entries < length (entries_after k t) → IsWideAt queue (limits.entries + 1) fault → IsOther limits l fault
  wide fault t ts next more named = elim named as (λ n. IsOther limits l fault) [
    | inl is ↦ subst (IsOther limits l) (sym is) (wanting (λ empty. first_there t ts (sym next ∙ sym held ∙ empty)))
    | inr found ↦
        let same : t ≡ found.0 = same_first t found.0 ts found.1 (sym next ∙ sym held ∙ found.2) in
        subst (IsOther limits l) (sym found.3) (
          no_wide found.0.change.table found.0.change.id (limits.entries + 1),
          record {
            coming = coming;
            is_built = is_built;
            next = found.0;
            rest = found.1;
            queue = sym held ∙ found.2;
            wide = subst (λ (u : Timed). limits.entries < length (entries_after k u)) same more;
            table_is = refl;
            id_is = refl;
            count_is = refl;
          },
        )
  ]

  full : (fault : BuildFault) (t : Timed) (ts : List Timed) → coming.queue ≡ t ∷ ts → length (entries_after k t) ≤ limits.entries → limits.ops < l.last + length (next_ops k t)
      → fault ≡ building.OpsFull last → IsOther limits l fault
  full fault t ts next narrow more is = subst (IsOther limits l) (sym is) (
    no_full last,
    record {
      coming = coming;
      is_built = is_built;
      next = t;
      rest = ts;
      queue = next;
      narrow = narrow;
      full = more;
      last_is = last_is;
    },
  )

  by_first : (fault : BuildFault) (t : Timed) (ts : List Timed) → coming.queue ≡ t ∷ ts → (o : Option Refusal) → IsNamedOf queue last o fault → (rest : Run) → 1 ≤ rest.count
      → (stopped k 0 (refusal_of limits k t) rest).count ≡ 0 → o ≡ (stopped k 0 (refusal_of limits k t) rest).refusal → IsOther limits l fault
  by_first fault t ts next o named rest some = by (nat_lt limits.entries (length (entries_after k t))) (nat_lt limits.ops (k.last + length (next_ops k t))) refl refl
    where
      by : (a b : Bool) → nat_lt limits.entries (length (entries_after k t)) ≡ a → nat_lt limits.ops (k.last + length (next_ops k t)) ≡ b
          → (stopped k 0 (if a then Some (TooWide (limits.entries + 1)) else if b then Some OpsFull else None) rest).count ≡ 0
          → o ≡ (stopped k 0 (if a then Some (TooWide (limits.entries + 1)) else if b then Some OpsFull else None) rest).refusal → IsOther limits l fault
      by true b x y count is = wide fault t ts next (is_less limits.entries (length (entries_after k t)) x) (subst (λ (p : Option Refusal). IsNamedOf queue last p fault) is named)
      by false true x y count is =
          full fault t ts next (not_less limits.entries (length (entries_after k t)) x) (is_less limits.ops (k.last + length (next_ops k t)) y) (subst (λ (p : Option Refusal). IsNamedOf queue last p fault) is named)
      by false false x y count is = absurd (omega (arith, count, some))

  -- where the longest run is empty, the fault of its end has its cause
  pub unbuilt_is : (fault : BuildFault) (limit : ℕ) → 1 ≤ limit → (us : List Timed) → coming.queue ≡ us → (run_from limits k 0 (take limit us)).count ≡ 0
      → (o : Option Refusal) → o ≡ (run_from limits k 0 (take limit us)).refusal → IsNamedOf queue last o fault → IsOther limits l fault
  unbuilt_is fault zero low us is count o end named = absurd (omega (arith, low))
  unbuilt_is fault (suc limit) low [] is count o end named = none fault is (subst (λ (p : Option Refusal). IsNamedOf queue last p fault) end named)
  unbuilt_is fault (suc limit) low (t ∷ ts) is count o end named =
      let rest : Run = run_from limits (write_next k t) (0 + 1) (take limit ts) in
      let front = run_is_front limits (take limit ts) (write_next k t) (0 + 1) in
      by_first fault t ts is o named rest (omega (arith, front.count)) count end
