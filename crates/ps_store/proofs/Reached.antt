-- How many transactions are reached.
use Rattle.std.proofs.Common.{◌≡◌, ℕ, suc, ◌+◌, ◌-◌, ◌≤◌, ◌<◌, Bool, true, false, cond, List, [], ◌∷◌, ◌++◌, refl, sym, ap, ◌∙◌, subst, length, map, arith}
use Rattle.std.specs.Prelude.{nat_le, if◌then◌else◌}
use Rattle.std.proofs.lemmas.Bool.Decides.{nat_tests}
use Rattle.ps_rows.specs.declared.changes.Transaction.{Transaction}
use Rattle.ps_store.specs.Laws.{Rises}
use Rattle.ps_store.specs.Ledgers.{Ledger, head_of, end_of}
use Rattle.ps_store.specs.Reach.{Reached, settled_from}
use Rattle.ps_store.specs.StepLaws.{transactions_upto}
use Rattle.ps_store.proofs.Going.{IsWell, reached_low}
use Rattle.ps_store.proofs.Reaching.{reached_is, reached_above, none_before}

within : (a b : ℕ) → a ≤ b → nat_le a b ≡ true
within a b h = grind (arith, nat_tests)

pub reached_count : (ts : List Transaction) (last p op w : ℕ) → Rises p ts
    → length (transactions_upto (settled_from last p op w (map end_of ts)).position ts) + length (settled_from last p op w (map end_of ts)).left ≡ length ts
reached_count [] last p op w h = refl
reached_count (t ∷ ts) last p op w h = by (nat_le (length t.changes) w) (reached_count ts last t.position.0 last (w - length t.changes) h.1)
  where
    rest : Reached
    rest = settled_from last t.position.0 last (w - length t.changes) (map end_of ts)

    up : t.position.0 ≤ rest.position
    up = subst (λ (n : ℕ). t.position.0 ≤ n) (sym (reached_is ts last t.position.0 last (w - length t.changes))) (reached_above ts t.position.0 (w - length t.changes) h.1)

    counted : length (transactions_upto rest.position (t ∷ ts)) ≡ suc (length (transactions_upto rest.position ts))
    counted = ap (λ (b : Bool). length (if b then t ∷ transactions_upto rest.position ts else transactions_upto rest.position ts)) (within t.position.0 rest.position up)

    length_ends : (xs : List Transaction) → length (map end_of xs) ≡ length xs
    length_ends [] = refl
    length_ends (x ∷ xs) = ap suc (length_ends xs)

    by : (b : Bool) → length (transactions_upto rest.position ts) + length rest.left ≡ length ts
        → length (transactions_upto (if b then rest else record { position = p; op = op; over = w; left = end_of t ∷ map end_of ts }).position (t ∷ ts))
        + length (if b then rest else record { position = p; op = op; over = w; left = end_of t ∷ map end_of ts }).left ≡ length (t ∷ ts)
    by true same = omega (arith, counted, same)
    by false same = omega (arith, ap length (none_before (t ∷ ts) p p h (omega arith)), length_ends ts)

-- the fed transactions without those past what is reached
pub committed_is : (l : Ledger) → IsWell l → length (transactions_upto l.reach.position l.fed) + length l.reach.left ≡ length l.fed
committed_is l well =
    (λ i. length (transactions_upto (well.place.position i) l.fed) + length (well.place.left i)) ∙ reached_count l.fed 0 0 0 l.written well.rises

-- a transaction past a position is not among those up to it
pub upto_push : (ts : List Transaction) (t : Transaction) (p : ℕ) → p < t.position.0 → transactions_upto p (ts ++ t ∷ []) ≡ transactions_upto p ts
upto_push [] t p later = ap (λ (b : Bool). cond b (t ∷ []) []) (beyond t.position.0 p later)
  where
    beyond : (a b : ℕ) → b < a → nat_le a b ≡ false
    beyond a b h = grind (arith, nat_tests)
upto_push (x ∷ ts) t p later = ap (λ (us : List Transaction). cond (nat_le x.position.0 p) (x ∷ us) us) (upto_push ts t p later)

pub committed_fed : (l : Ledger) (t : Transaction) → IsWell l → head_of l.fed < t.position.0 → length (transactions_upto l.position l.fed) ≡ length (transactions_upto l.position (l.fed ++ t ∷ []))
committed_fed l t well later = ap length (sym (upto_push l.fed t l.position (omega (arith, well.behind, reached_low l.fed l.written l.reach well.rises well.place, later))))
