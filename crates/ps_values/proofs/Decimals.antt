-- What `parse` reads of a text that begins as a decimal does.
use Rattle.std.proofs.Common.{◌≡◌, ◌≢◌, ℕ, ◌<◌, ◌≤◌, ◌^◌, ◌&&◌, Bool, true, false, List, [], ◌∷◌, Some, None, Result, Ok, Err, length, get_or, arith, refl, leb, cond, sym, ap, ◌∙◌, subst, inl, inr, le-leb, leb-true}
use Rattle.std.specs.Str.{all_ascii_digits}
use Rattle.std.specs.Str.Parse.{digits_value, ParsesUnsigned}
use Rattle.std.proofs.lemmas.Bool.Decides.{nat_tests}
use Rattle.std.proofs.lemmas.Str.Parse.{parse_plain, numerals_by_value, tells_all_ascii_digits, IsNumeralModel}
use Rattle.std.proofs.lemmas.Bool.{cases_lt}
use Rattle.std.specs.Fmt.{decimal}
use Rattle.std.proofs.lemmas.Fmt.{digits_decimal, digits_value-decimal, decimal-digits_value, decimal_digit, decimal_nonempty, first_decimal}
use Rattle.ps_data.specs.Numbers.{begins_plainly, is_decimal, decimal_of, greatest}
use Rattle.ps_values.specs.Laws.{ReadsWhatIsWritten}

own : IsNumeralModel (λ ds. all_ascii_digits ds ≡ true) (digits_value 10)
own = numerals_by_value _ tells_all_ascii_digits

-- a plain text has no sign before it
no_plus : (bs : List ℕ) → begins_plainly bs ≡ true → get_or bs 0 0 ≢ 43
no_plus [] h = λ e. cc
no_plus (d ∷ []) h = λ e. let f : false ≡ true = subst (λ x. begins_plainly (x ∷ []) ≡ true) e h in cc
no_plus (d ∷ next ∷ ds) h = λ e. let f : false ≡ true = subst (λ x. begins_plainly (x ∷ next ∷ ds) ≡ true) e h in cc

some_byte : (bs : List ℕ) → begins_plainly bs ≡ true → 0 < length bs
some_byte [] h = cc
some_byte (d ∷ ds) h = omega arith

-- what is parsed is the decimal's number, where it is no greater than the greatest
abbrev pub Reads : {E : Type 0} → List ℕ → Result ℕ E → Type 0
Reads bs (Ok n) = decimal_of bs ≡ cond (leb n greatest) (Some n) None
Reads bs (Err e) = decimal_of bs ≡ None

refused : (digits : Bool) (n : ℕ) → ((digits ≡ true) × (n < 2 ^ 64) → ⊥) → cond (digits && leb n greatest) (Some n) None ≡ None
refused false n h = refl
refused true n h = grind (arith, nat_tests, h)

pub reads : {E : Type 0} (bs : List ℕ) (r : Result ℕ E) → begins_plainly bs ≡ true → ParsesUnsigned 64 10 bs r → Reads bs r
reads {E} bs (Ok n) plain h =
    let parsed = parse_plain own {E = E} 64 bs (Ok n) h (no_plus bs plain) in
    rw (plain, parsed.0.0, parsed.1) refl
reads {E} bs (Err e) plain h =
    let parsed = parse_plain own {E = E} 64 bs (Err e) h (no_plus bs plain) in
    rw plain (refused (all_ascii_digits bs) (digits_value 10 bs) (λ both. parsed (both.0, some_byte bs plain, both.1)))

-- ---- what is written is read, and nothing else

plain_by : (ds : List ℕ) → all_ascii_digits ds ≡ true → 0 < length ds → (get_or ds 0 0 ≡ 48 → length ds ≡ 1) → begins_plainly ds ≡ true
plain_by [] digits some alone = absurd (omega arith)
plain_by (d ∷ []) digits some alone = grind (arith, nat_tests, digits)
plain_by (d ∷ next ∷ ds) digits some alone = grind (arith, nat_tests, digits, alone)

-- 0 stands alone
zero_alone : (ds : List ℕ) → begins_plainly ds ≡ true → get_or ds 0 0 ≡ 48 → length ds ≡ 1
zero_alone [] h e = cc
zero_alone (d ∷ []) h e = refl
zero_alone (d ∷ next ∷ ds) h e = let f : false ≡ true = subst (λ x. begins_plainly (x ∷ next ∷ ds) ≡ true) e h in cc

both : (a b : Bool) → (a && b) ≡ true → (a ≡ true) × (b ≡ true)
both true b h = (refl, h)
both false b h = cc

some_by : (b : Bool) (v n : ℕ) → cond b (Some v) None ≡ Some n → (b ≡ true) × (v ≡ n)
some_by true v n h = (refl, cc)
some_by false v n h = cc

written : (n : ℕ) → n ≤ greatest → decimal_of (decimal n) ≡ Some n
written n within =
    let small : n < 2 ^ 64 = omega arith in
    let digits = digits_decimal own n small in
    let value = digits_value-decimal own n small in
    let alone : get_or (decimal n) 0 0 ≡ 48 → length (decimal n) ≡ 1 = λ zero_first. elim (cases_lt n 10) [
      | inl one ↦ ap length (decimal_digit n one)
      | inr more ↦ absurd (omega (arith, first_decimal n (omega arith) small))
    ] in
    let plain = plain_by (decimal n) digits (decimal_nonempty n small) alone in
    rw (plain, digits, value, le-leb n greatest within) refl

read : (text : List ℕ) (n : ℕ) → decimal_of text ≡ Some n → (n ≤ greatest) × (text ≡ decimal n)
read text n h =
    let is = some_by (is_decimal text && leb (digits_value 10 text) greatest) (digits_value 10 text) n h in
    let tests = both (is_decimal text) (leb (digits_value 10 text) greatest) is.0 in
    let form = both (begins_plainly text) (all_ascii_digits text) tests.0 in
    let within : digits_value 10 text ≤ greatest = leb-true _ _ tests.1 in
    (omega (arith, within, is.1), sym (decimal-digits_value own text form.1 (some_byte text form.0) (zero_alone text form.0) (omega (arith, within))) ∙ ap decimal is.1)

pub reads_what_is_written : ReadsWhatIsWritten
reads_what_is_written text n = (read text n, λ h. ap decimal_of h.1 ∙ written n h.0)
