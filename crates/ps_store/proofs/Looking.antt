-- How many looks the readings of a store take.
use Rattle.std.proofs.Common.{◌≡◌, ℕ, zero, suc, ◌+◌, ◌*◌, ◌^◌, ◌<◌, ◌≤◌, inl, inr, List, [], ◌∷◌, length, ap, sym, subst, ◌∙◌, arith}
use Rattle.std.proofs.lemmas.Bool.{cases_lt}
use Rattle.std.proofs.Math.Nat.{suc-mul}
use Rattle.ps_bucket_log.specs.declared.ops.Op.{Op}
use Rattle.ps_segments.specs.Depths.{IsDepth}
use Rattle.ps_store.specs.Costs.{AreNoLonger}

-- what is less than a power of two has a depth below the exponent
depth_from : (m d : ℕ) → 2 * m + 1 < 2 ^ (d + 1) → (e : ℕ) × IsDepth m e × (e ≤ d)
depth_from m zero high = (0, record { within = omega arith; greatest = high }, omega arith)
depth_from m (suc d) high = elim (cases_lt (2 * m + 1) (2 ^ (d + 1))) [
  | inl below ↦ let r = depth_from m d below in (r.0, r.1, omega (arith, r.2))
  | inr within ↦
      let next : d + 1 ≡ suc d = omega arith in
      (suc d, record { within = subst (λ (k : ℕ). 2 ^ k ≤ 2 * m + 1) next within; greatest = high }, omega arith)
]

-- a shorter list is no deeper
pub depth_below : (m n d : ℕ) → IsDepth n d → m ≤ n → (e : ℕ) × IsDepth m e × (e ≤ d)
depth_below m n d depth low = depth_from m d (omega (arith, depth.greatest))

-- one bucket more
pub one_more : (logs : List ℕ → List Op) (n limit before then begun all : ℕ) (name : List ℕ) (left rest : List (List ℕ)) → left ≡ name ∷ rest
    → AreNoLonger logs n left → before + length left * limit ≤ begun + all * limit
    → (length (logs name) ≤ n → then ≤ before + limit)
    → AreNoLonger logs n rest × (then + length rest * limit ≤ begun + all * limit)
one_more logs n limit before then begun all name left rest is low within cost =
    let here : AreNoLonger logs n (name ∷ rest) = subst (AreNoLonger logs n) is low in
    let many : length left * limit ≡ length rest * limit + limit = ap (λ (names : List (List ℕ)). length names * limit) is ∙ suc-mul (length rest) limit in
    (here.1, omega (arith, within, many, cost here.0))

-- what is left to look at may stay so
pub at_most : (then left begun all limit : ℕ) → then + left * limit ≤ begun + all * limit → then ≤ begun + all * limit
at_most then left begun all limit within = omega (arith, within)

-- what is no longer stays so where the logs and the names are the same
pub same_lengths : (logs others : List ℕ → List Op) (n : ℕ) (names : List (List ℕ)) → ((name : List ℕ) → logs name ≡ others name) → AreNoLonger others n names → AreNoLonger logs n names
same_lengths logs others n [] same low = tt
same_lengths logs others n (name ∷ names) same low =
    (subst (λ (ops : List Op). length ops ≤ n) (sym (same name)) low.0, same_lengths logs others n names same low.1)
