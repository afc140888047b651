-- Comparing and combining bytes, one after another.
use Rattle.std.proofs.Common.{◌≡◌, ℕ, zero, suc, ◌+◌, ◌<◌, ◌≤◌, List, [], ◌∷◌, ◌++◌, length, get_or, take, drop, map, refl, sym, ap, ◌∙◌, arith, add-one, append_assoc, subst}
use Rattle.std.specs.Prelude.{bit_or, bit_xor, IsTrue, nat_eq}
use Rattle.std.specs.Int.Bits.{xor_assoc, xor_self, xor_zero_l, xor_zero_r, or_self}
use Rattle.std.proofs.Math.ListN.{set}
use Rattle.std.proofs.Math.Seq.{take-suc, drop-cons, set-append_seam, get_or-append_seam}
use Rattle.std.proofs.lemmas.Bool.{eqb-true, eq-eqb}
use Rattle.std.proofs.lemmas.List.{take_all, get_or-take, length-take-le, length-map, map-append}
use Rattle.std.proofs.lemmas.Nat.{le_or_l, le_or_r}

or_is_zero : (a b : ℕ) → bit_or a b ≡ 0 → (a ≡ 0) × (b ≡ 0)
or_is_zero a b h = let l = le_or_l a b in let r = le_or_r a b in (omega (arith, l, r, h), omega (arith, l, r, h))

xor_is_zero : (a b : ℕ) → bit_xor a b ≡ 0 → a ≡ b
xor_is_zero a b h = sym (xor_zero_r a) ∙ ap (λ x. bit_xor a x) (sym (xor_self b)) ∙ sym (xor_assoc a b b) ∙ ap (λ x. bit_xor x b) h ∙ xor_zero_l b

take_twice : (i : ℕ) (xs : List ℕ) → take i (take (suc i) xs) ≡ take i xs
take_twice zero xs = refl
take_twice (suc i) [] = refl
take_twice (suc i) (x ∷ xs) = ap (λ rest. x ∷ rest) (take_twice i xs)

-- no difference is found in the first bytes exactly where these are the same
abbrev pub SameUpto : ℕ → ℕ → List ℕ → List ℕ → Type 0
SameUpto difference i code other = (difference ≡ 0 → take i other ≡ take i code) × (take i other ≡ take i code → difference ≡ 0)

pub same_more : (d i : ℕ) (code other : List ℕ) → i < length code → i < length other → SameUpto d i code other
    → SameUpto (bit_or d (bit_xor (get_or code i 0) (get_or other i 0))) (i + 1) code other
same_more d i code other within beside same = (
  λ h.
      let parts = or_is_zero d (bit_xor (get_or code i 0) (get_or other i 0)) h in
      rw add-one (take-suc other i 0 beside ∙ ap (λ (front : List ℕ). front ++ get_or other i 0 ∷ []) (same.0 parts.0)
      ∙ ap (λ (x : ℕ). take i code ++ x ∷ []) (sym (xor_is_zero _ _ parts.1)) ∙ sym (take-suc code i 0 within)),
  λ h.
      let next : take (suc i) other ≡ take (suc i) code = rw (← add-one) h in
      let here : get_or code i 0 ≡ get_or other i 0 = sym (get_or-take (suc i) code i 0 (omega arith)) ∙ ap (λ (xs : List ℕ). get_or xs i 0) (sym next) ∙ get_or-take (suc i) other i 0 (omega arith) in
      let front : take i other ≡ take i code = sym (take_twice i other) ∙ ap (λ (xs : List ℕ). take i xs) next ∙ take_twice i code in
      ap (λ (x : ℕ). bit_or x (bit_xor (get_or code i 0) (get_or other i 0))) (same.1 front)
      ∙ ap (λ (x : ℕ). bit_or 0 (bit_xor x (get_or other i 0))) here ∙ ap (λ (x : ℕ). bit_or 0 x) (xor_self (get_or other i 0)) ∙ or_self 0,
)

pub same_all : (d i : ℕ) (code other : List ℕ) → length code ≤ i → length other ≤ i → SameUpto d i code other
    → (IsTrue (nat_eq d 0) → other ≡ code) × (other ≡ code → IsTrue (nat_eq d 0))
same_all d i code other past beyond same = (
  λ h. sym (take_all i other beyond) ∙ same.0 (eqb-true d 0 h) ∙ take_all i code past,
  λ h. eq-eqb d 0 (same.1 (ap (λ (xs : List ℕ). take i xs) h)),
)

-- a byte between those that were combined and those that are left
mid : (f : ℕ → ℕ) (done : List ℕ) (b : ℕ) (rest : List ℕ) (i : ℕ) → length done ≡ i → set (done ++ b ∷ rest) i (f (get_or (done ++ b ∷ rest) i 0)) ≡ done ++ f b ∷ rest
mid f done b rest i e =
    subst (λ (j : ℕ). set (done ++ b ∷ rest) j (f (get_or (done ++ b ∷ rest) j 0)) ≡ done ++ f b ∷ rest) e
    (ap (λ (x : ℕ). set (done ++ b ∷ rest) (length done) (f x)) (get_or-append_seam done b rest 0) ∙ set-append_seam done b rest (f b))

-- bytes of which the first are combined
abbrev pub Combined : (ℕ → ℕ) → List ℕ → ℕ → List ℕ
Combined f block i = map f (take i block) ++ drop i block

pub combined_more : (f : ℕ → ℕ) (block : List ℕ) (i : ℕ) → i < length block
    → set (Combined f block i) i (f (get_or (Combined f block i) i 0)) ≡ Combined f block (i + 1)
combined_more f block i within =
    let b = get_or block i 0 in
    let left : drop i block ≡ b ∷ drop (suc i) block = drop-cons block i 0 within in
    let long : length (map f (take i block)) ≡ i = length-map (take i block) f ∙ length-take-le i block (omega arith) in
    let next : map f (take (suc i) block) ≡ map f (take i block) ++ f b ∷ [] = ap (λ (xs : List ℕ). map f xs) (take-suc block i 0 within) ∙ map-append f (take i block) (b ∷ []) in
    ap (λ (r : List ℕ). set (map f (take i block) ++ r) i (f (get_or (map f (take i block) ++ r) i 0))) left
    ∙ mid f (map f (take i block)) b (drop (suc i) block) i long
    ∙ sym (append_assoc (map f (take i block)) (f b ∷ []) (drop (suc i) block))
    ∙ ap (λ (front : List ℕ). front ++ drop (suc i) block) (sym next)
    ∙ rw add-one refl
