-- A compact JSON array of values tells the values.
use Rattle.std.proofs.Common.{◌≡◌, ℕ, zero, suc, eqb, ◌+◌, ◌*◌, ◌/◌, ◌%◌, ◌^◌, ◌<◌, ◌≤◌, ◌==◌, pos, negsuc, Bool, true, false, List, [], ◌∷◌, ◌++◌, length, drop, get_or, map, decimal, refl, sym, ap, ◌∙◌, subst, append_assoc, arith, inl, inr}
use Rattle.std.specs.Prelude.{◌&&◌, nat_le, if◌then◌else◌}
use Rattle.std.specs.Fmt.{digits, digits_onto, digit_glyph}
use Rattle.std.specs.List.{AllByRecursion}
use Rattle.std.proofs.lemmas.Bool.{lt-ltb, le-leb, cases_lt, and_from, eqb-true, eqb-false}
use Rattle.std.proofs.lemmas.Fmt.{decimal_injective, length-decimal-le}
use Rattle.std.proofs.lemmas.List.{append_cancel_left, drop_more}
use Rattle.std.proofs.lemmas.Option.{same_Some}
use Rattle.json.specs.Text.{content, plain}
use Rattle.json.specs.Print.{escape, quoted}
use Rattle.json.proofs.Printed.Strings.{content-escape}
use Rattle.serde_json.specs.View.{items_of}
use Rattle.serde_json.specs.Written.{compact_text, items_text}
use Rattle.ps_data.specs.declared.values.Value.{Value}
use Rattle.ps_data.specs.declared.values.Value.TheVariants.{Null, Int, Text}
use Rattle.ps_data.specs.Documents.{data_of}
use Rattle.ps_definitions.specs.Buckets.{array_json, bucket_name_of}
use Rattle.ps_definitions.specs.Laws.{IsSqlValue}

-- ---- decimal digits

abbrev is_digit : ℕ → Bool
is_digit b = nat_le 48 b && nat_le b 57

-- what a text begins with: 1 for a digit, the byte for any other, 0 for none
abbrev starts : List ℕ → ℕ
starts [] = 0
starts (x ∷ xs) = if is_digit x then 1 else x

-- the digits that a text begins with
abbrev run : List ℕ → List ℕ
run [] = []
run (x ∷ xs) = if is_digit x then x ∷ run xs else []

abbrev AreDigits : List ℕ → Type 0
AreDigits xs = AllByRecursion (λ x. is_digit x ≡ true) xs

glyph_small : (d : ℕ) → d < 10 → is_digit (digit_glyph false d) ≡ true
glyph_small d h = rw (lt-ltb d 10 h) (and_from (nat_le 48 (48 + d)) (nat_le (48 + d) 57) (le-leb 48 (48 + d) (omega arith)) (le-leb (48 + d) 57 (omega arith)))

glyph_digit : (n : ℕ) → is_digit (digit_glyph false (n % 10)) ≡ true
glyph_digit n = glyph_small (n % 10) (omega arith)

onto_digits : (k n : ℕ) (acc : List ℕ) → AreDigits acc → AreDigits (digits_onto k 10 false n acc)
onto_digits zero n acc h = h
onto_digits (suc k) n acc h = elim (n / 10 == 0) as (λ b. AreDigits (if b then digit_glyph false (n % 10) ∷ acc else digits_onto k 10 false (n / 10) (digit_glyph false (n % 10) ∷ acc))) [
  | true ↦ (glyph_digit n, h)
  | false ↦ onto_digits k (n / 10) (digit_glyph false (n % 10) ∷ acc) (glyph_digit n, h)
]

onto_longer : (k n : ℕ) (acc : List ℕ) → length acc ≤ length (digits_onto k 10 false n acc)
onto_longer zero n acc = omega arith
onto_longer (suc k) n acc = elim (n / 10 == 0) as (λ b. length acc ≤ length (if b then digit_glyph false (n % 10) ∷ acc else digits_onto k 10 false (n / 10) (digit_glyph false (n % 10) ∷ acc))) [
  | true ↦ omega arith
  | false ↦ omega (arith, onto_longer k (n / 10) (digit_glyph false (n % 10) ∷ acc))
]

some_onto : (k n : ℕ) → 0 < length (digits_onto (suc k) 10 false n [])
some_onto k n = elim (n / 10 == 0) as (λ b. 0 < length (if b then digit_glyph false (n % 10) ∷ [] else digits_onto k 10 false (n / 10) (digit_glyph false (n % 10) ∷ []))) [
  | true ↦ omega arith
  | false ↦ omega (arith, onto_longer k (n / 10) (digit_glyph false (n % 10) ∷ []))
]

decimal_digits : (n : ℕ) → AreDigits (decimal n)
unfolding digits
decimal_digits n = onto_digits 64 n [] tt

decimal_some : (n : ℕ) → 0 < length (decimal n)
unfolding digits
decimal_some n = some_onto 63 n

abbrev tens : ℕ → ℕ
tens zero = 1
tens (suc j) = 10 * tens j

some_tens : (j : ℕ) → 0 < tens j
some_tens zero = omega arith
some_tens (suc j) = omega (arith, some_tens j)

-- a number of many digits has as many
onto_long : (j k n : ℕ) (acc : List ℕ) → j < k → tens j ≤ n → suc j + length acc ≤ length (digits_onto k 10 false n acc)
onto_long j zero n acc lt h = absurd (omega arith)
onto_long zero (suc k) n acc lt h = elim (n / 10 == 0) as (λ b. 1 + length acc ≤ length (if b then digit_glyph false (n % 10) ∷ acc else digits_onto k 10 false (n / 10) (digit_glyph false (n % 10) ∷ acc))) [
  | true ↦ omega arith
  | false ↦ omega (arith, onto_longer k (n / 10) (digit_glyph false (n % 10) ∷ acc))
]
onto_long (suc j) (suc k) n acc lt h = elim (n / 10 == 0) as (λ b. (n / 10 == 0) ≡ b → suc (suc j) + length acc ≤ length (if b then digit_glyph false (n % 10) ∷ acc else digits_onto k 10 false (n / 10) (digit_glyph false (n % 10) ∷ acc))) [
  | true ↦ λ e. absurd (omega (arith, h, some_tens j, eqb-true (n / 10) 0 e))
  | false ↦ λ e. omega (arith, onto_long j k (n / 10) (digit_glyph false (n % 10) ∷ acc) (omega arith) (omega (arith, h)))
] refl

decimal_long : (n : ℕ) → 2 ^ 64 ≤ n → 20 ≤ length (decimal n)
unfolding digits
decimal_long n h = omega (arith, onto_long 19 64 n [] (omega arith) (omega (arith, h)))

-- whatever the other number
decimal_back : (m n : ℕ) → m < 2 ^ 63 + 1 → decimal m ≡ decimal n → m ≡ n
decimal_back m n small e = elim (cases_lt n (2 ^ 64)) [
  | inl below ↦ decimal_injective m n (omega arith) below e
  | inr above ↦ absurd (omega (arith, decimal_long n above, length-decimal-le 19 m (omega arith) (omega arith) (omega arith), ap length e))
]

-- ---- a text before a byte that is no digit

starts_digit : (xs t : List ℕ) → AreDigits xs → 0 < length xs → starts (xs ++ t) ≡ 1
starts_digit [] t h some = absurd (omega arith)
starts_digit (x ∷ xs) t h some = ap (λ b. if b then 1 else x) h.0

run_digits : (xs t : List ℕ) → AreDigits xs → run t ≡ [] → run (xs ++ t) ≡ xs
run_digits [] t h e = e
run_digits (x ∷ xs) t h e = ap (λ b. if b then x ∷ run (xs ++ t) else []) h.0 ∙ ap (λ r. x ∷ r) (run_digits xs t h.1 e)

-- what follows a value in an array
ends : (values : List Value) → run (items_text true (items_of (map data_of values))) ≡ []
ends [] = refl
ends (v ∷ vs) = refl

abbrev kind_of : Value → ℕ
kind_of Null = 110
kind_of (Int (pos n)) = 1
kind_of (Int (negsuc n)) = 45
kind_of (Text t) = 34

-- the text of a value, which proofs do not compute
written : Value → List ℕ
written v = compact_text (data_of v)

starts_kind : (v : Value) (t : List ℕ) → starts (written v ++ t) ≡ kind_of v
unfolding written
starts_kind Null t = refl
starts_kind (Int (pos n)) t = starts_digit (decimal n) t (decimal_digits n) (decimal_some n)
starts_kind (Int (negsuc n)) t = refl
starts_kind (Text s) t = refl

quoted_before : (s t : List ℕ) → quoted s ++ t ≡ 34 ∷ (escape s ++ 34 ∷ t)
quoted_before s t = ap (λ r. 34 ∷ r) (append_assoc (escape s) (34 ∷ []) t)

record IsSplit (v w : Value) (t u : List ℕ) : Type 0 where
  same : v ≡ w
  rest : t ≡ u

of_kinds : (v w : Value) (t u : List ℕ) → written v ++ t ≡ written w ++ u → kind_of v ≡ kind_of w
of_kinds v w t u e = sym (starts_kind v t) ∙ ap starts e ∙ starts_kind w u

same_number : (m n : ℕ) (t u : List ℕ) → m < 2 ^ 63 + 1 → run t ≡ [] → run u ≡ [] → decimal m ++ t ≡ decimal n ++ u → (m ≡ n) × (t ≡ u)
same_number m n t u small a b e =
    let digits_same : decimal m ≡ decimal n = sym (run_digits (decimal m) t (decimal_digits m) a) ∙ ap run e ∙ run_digits (decimal n) u (decimal_digits n) b in
    let same = decimal_back m n small digits_same in
    (same, append_cancel_left (decimal m) t u (e ∙ ap (λ (d : List ℕ). d ++ u) (sym digits_same)))

same_text : (r s t u : List ℕ) → quoted r ++ t ≡ quoted s ++ u → (r ≡ s) × (t ≡ u)
same_text r s t u e =
    let inner : escape r ++ 34 ∷ t ≡ escape s ++ 34 ∷ u = ap (drop 1) (sym (quoted_before r t) ∙ e ∙ quoted_before s u) in
    let same : r ≡ s = same_Some r s (sym (content-escape r t) ∙ ap (content plain) inner ∙ content-escape s u) in
    (same, ap (drop 1) (append_cancel_left (escape r) (34 ∷ t) (34 ∷ u) (inner ∙ ap (λ (x : List ℕ). escape x ++ 34 ∷ u) (sym same))))

split_null : (t u : List ℕ) → written Null ++ t ≡ written Null ++ u → IsSplit Null Null t u
split_null t u e = record { same = refl; rest = append_cancel_left (written Null) t u e }

split_pos : (m n : ℕ) (t u : List ℕ) → m < 2 ^ 63 → run t ≡ [] → run u ≡ [] → written (Int (pos m)) ++ t ≡ written (Int (pos n)) ++ u → IsSplit (Int (pos m)) (Int (pos n)) t u
unfolding written
split_pos m n t u h a b e = let p = same_number m n t u (omega (arith, h)) a b e in record { same = ap (λ x. Int (pos x)) p.0; rest = p.1 }

suc_same : (m n : ℕ) → suc m ≡ suc n → m ≡ n
suc_same m n e = omega (arith, e)

split_neg : (m n : ℕ) (t u : List ℕ) → m < 2 ^ 63 → run t ≡ [] → run u ≡ [] → written (Int (negsuc m)) ++ t ≡ written (Int (negsuc n)) ++ u → IsSplit (Int (negsuc m)) (Int (negsuc n)) t u
unfolding written
split_neg m n t u h a b e =
    let p = same_number (suc m) (suc n) t u (omega (arith, h)) a b (ap (drop 1) e) in
    record { same = ap (λ x. Int (negsuc x)) (suc_same m n p.0); rest = p.1 }

split_text : (r s t u : List ℕ) → written (Text r) ++ t ≡ written (Text s) ++ u → IsSplit (Text r) (Text s) t u
unfolding written
split_text r s t u e = let p = same_text r s t u e in record { same = ap Text p.0; rest = p.1 }

apart : (v w : Value) (t u : List ℕ) → eqb (kind_of v) (kind_of w) ≡ false → written v ++ t ≡ written w ++ u → IsSplit v w t u
apart v w t u k e = absurd (eqb-false (kind_of v) (kind_of w) k (of_kinds v w t u e))

split_from_null : (w : Value) (t u : List ℕ) → written Null ++ t ≡ written w ++ u → IsSplit Null w t u
split_from_null Null t u e = split_null t u e
split_from_null (Int (pos n)) t u e = apart Null (Int (pos n)) t u refl e
split_from_null (Int (negsuc n)) t u e = apart Null (Int (negsuc n)) t u refl e
split_from_null (Text s) t u e = apart Null (Text s) t u refl e

split_from_pos : (m : ℕ) (w : Value) (t u : List ℕ) → m < 2 ^ 63 → run t ≡ [] → run u ≡ [] → written (Int (pos m)) ++ t ≡ written w ++ u → IsSplit (Int (pos m)) w t u
split_from_pos m Null t u h a b e = apart (Int (pos m)) Null t u refl e
split_from_pos m (Int (pos n)) t u h a b e = split_pos m n t u h a b e
split_from_pos m (Int (negsuc n)) t u h a b e = apart (Int (pos m)) (Int (negsuc n)) t u refl e
split_from_pos m (Text s) t u h a b e = apart (Int (pos m)) (Text s) t u refl e

split_from_neg : (m : ℕ) (w : Value) (t u : List ℕ) → m < 2 ^ 63 → run t ≡ [] → run u ≡ [] → written (Int (negsuc m)) ++ t ≡ written w ++ u → IsSplit (Int (negsuc m)) w t u
split_from_neg m Null t u h a b e = apart (Int (negsuc m)) Null t u refl e
split_from_neg m (Int (pos n)) t u h a b e = apart (Int (negsuc m)) (Int (pos n)) t u refl e
split_from_neg m (Int (negsuc n)) t u h a b e = split_neg m n t u h a b e
split_from_neg m (Text s) t u h a b e = apart (Int (negsuc m)) (Text s) t u refl e

split_from_text : (r : List ℕ) (w : Value) (t u : List ℕ) → written (Text r) ++ t ≡ written w ++ u → IsSplit (Text r) w t u
split_from_text r Null t u e = apart (Text r) Null t u refl e
split_from_text r (Int (pos n)) t u e = apart (Text r) (Int (pos n)) t u refl e
split_from_text r (Int (negsuc n)) t u e = apart (Text r) (Int (negsuc n)) t u refl e
split_from_text r (Text s) t u e = split_text r s t u e

split : (v w : Value) (t u : List ℕ) → IsSqlValue v → run t ≡ [] → run u ≡ [] → written v ++ t ≡ written w ++ u → IsSplit v w t u
split Null w t u h a b e = split_from_null w t u e
split (Int (pos m)) w t u h a b e = split_from_pos m w t u h a b e
split (Int (negsuc m)) w t u h a b e = split_from_neg m w t u h a b e
split (Text r) w t u h a b e = split_from_text r w t u e

-- ---- arrays

abbrev text_from : Bool → List Value → List ℕ
text_from later values = items_text later (items_of (map data_of values))

kind_no_end : (w : Value) → eqb 93 (kind_of w) ≡ false
kind_no_end Null = refl
kind_no_end (Int (pos n)) = refl
kind_no_end (Int (negsuc n)) = refl
kind_no_end (Text t) = refl

not_ended : (w : Value) (t : List ℕ) → 93 ∷ [] ≡ written w ++ t → ⊥
not_ended w t e = eqb-false 93 (kind_of w) (kind_no_end w) (ap starts e ∙ starts_kind w t)

first_text : (v : Value) (vs : List Value) → text_from false (v ∷ vs) ≡ written v ++ text_from true vs
unfolding written
first_text v vs = refl

next_text : (v : Value) (vs : List Value) → text_from true (v ∷ vs) ≡ 44 ∷ (written v ++ text_from true vs)
unfolding written
next_text v vs = refl

items_back : (later : Bool) (v w : List Value) → AllByRecursion IsSqlValue v → text_from later v ≡ text_from later w → v ≡ w
items_back later [] [] h e = refl
items_back true [] (w ∷ ws) h e = absurd (eqb-false 93 44 refl (ap starts (e ∙ next_text w ws)))
items_back false [] (w ∷ ws) h e = absurd (not_ended w (text_from true ws) (e ∙ first_text w ws))
items_back true (v ∷ vs) [] h e = absurd (eqb-false 44 93 refl (ap starts (sym (next_text v vs) ∙ e)))
items_back false (v ∷ vs) [] h e = absurd (not_ended v (text_from true vs) (sym e ∙ first_text v vs))
items_back true (v ∷ vs) (w ∷ ws) h e =
    let s = split v w (text_from true vs) (text_from true ws) h.0 (ends vs) (ends ws) (ap (drop 1) (sym (next_text v vs) ∙ e ∙ next_text w ws)) in
    λ i. s.same i ∷ items_back true vs ws h.1 s.rest i
items_back false (v ∷ vs) (w ∷ ws) h e =
    let s = split v w (text_from true vs) (text_from true ws) h.0 (ends vs) (ends ws) (sym (first_text v vs) ∙ e ∙ first_text w ws) in
    λ i. s.same i ∷ items_back true vs ws h.1 s.rest i

-- one definition's names tell the vectors, whatever the other vector
pub vector_back : (definition : List ℕ) (v w : List Value) → AllByRecursion IsSqlValue v → bucket_name_of definition v ≡ bucket_name_of definition w → v ≡ w
unfolding bucket_name_of
vector_back definition v w h e = items_back false v w h (ap (drop 1) (append_cancel_left definition (compact_text (array_json v)) (compact_text (array_json w)) e))

-- a value of signed 64 bits before those that are left
pub ranges_before : (values : List Value) (i : ℕ) (v : Value) → i < length values → v ≡ get_or values i v → IsSqlValue v → (AllByRecursion IsSqlValue (drop i values) → AllByRecursion IsSqlValue values)
    → AllByRecursion IsSqlValue (drop (i + 1) values) → AllByRecursion IsSqlValue values
ranges_before values i v within is range before rest =
    before (subst (λ vs. AllByRecursion IsSqlValue vs) (sym (drop_more values i v within ∙ ap (λ x. x ∷ drop (i + 1) values) (sym is))) (range, rest))
