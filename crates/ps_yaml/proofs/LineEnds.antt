-- How the lines of a text follow from its first line feed.
use Rattle.std.proofs.Common.{◌≡◌, ℕ, ◌<◌, ◌≤◌, List, [], ◌∷◌, ◌++◌, Bool, true, false, ◌==◌, not, cond, if◌then◌else◌, length, get_or, take, drop, suc, nat_lt, refl, sym, ap, subst, ◌∙◌, drop-cons, take_all, Some, None, arith}
use Rattle.std.proofs.lemmas.Bool.Decides.{nat_tests}
use Rattle.std.proofs.lemmas.List.{take-append-drop}
use Rattle.std.proofs.lemmas.List.Sums.{passes_at_first, take_while-cons}
use Rattle.std.specs.List.{position, position_or_len, take_while, list_all}
use Rattle.ps_yaml.specs.Lines.{is_feed, split_lines, without_return}

nonempty : (front : List ℕ) (x : ℕ) → (length (front ++ x ∷ []) == 0) ≡ false
nonempty [] x = refl
nonempty (b ∷ front) x = grind (arith, nat_tests)

pub return_at_end : (front : List ℕ) (x : ℕ) → without_return (front ++ x ∷ []) ≡ (if x == 13 then front else front ++ x ∷ [])
return_at_end [] x = grind (arith, nat_tests)
return_at_end (b ∷ front) x = grind (arith, nat_tests, nonempty front x, return_at_end front x)

abbrev is_text : ℕ → Bool
is_text b = not (is_feed b)

-- a text without line feeds is the first line, where one follows it
cut : (xs ys : List ℕ) → list_all is_text xs ≡ true → split_lines (xs ++ 10 ∷ ys) ≡ without_return xs ∷ split_lines ys
cut [] ys h = refl
cut (x ∷ []) ys h = grind (arith, nat_tests)
cut (x ∷ y ∷ xs) ys h = grind (arith, nat_tests, cut (y ∷ xs) ys)

-- a text without line feeds is the only line, where nothing follows it
alone : (xs : List ℕ) → list_all is_text xs ≡ true → split_lines xs ≡ xs ∷ []
alone [] h = refl
alone (x ∷ []) h = grind (arith, nat_tests)
alone (x ∷ y ∷ xs) h = grind (arith, nat_tests, alone (y ∷ xs))

clean : (p : ℕ → Bool) (xs : List ℕ) → list_all p (take_while p xs) ≡ true
clean p [] = refl
clean p (x ∷ xs) = grind (arith, take_while-cons p x xs, clean p xs)

some_place : (k n i : ℕ) → cond (nat_lt k n) (Some k) None ≡ Some i → (k ≡ i) × (k < n)
some_place k n i e = grind (arith, nat_tests)

none_place : (k n : ℕ) → cond (nat_lt k n) (Some k) None ≡ None → n ≤ k
none_place k n e = grind (arith, nat_tests)

headed : (ys : List ℕ) (b c : ℕ) (t : List ℕ) → ys ≡ b ∷ t → (b == c) ≡ true → ys ≡ c ∷ drop 1 ys
headed ys b c t e p = let q : b ≡ c = grind (arith, nat_tests) in e ∙ ap (λ u. u ∷ t) q ∙ ap (λ u. c ∷ drop 1 u) (sym e)

-- the first line feed ends the first line
at_feed : (bytes : List ℕ) → position_or_len is_feed bytes < length bytes → split_lines bytes ≡ without_return (take (position_or_len is_feed bytes) bytes) ∷ split_lines (drop 1 (drop (position_or_len is_feed bytes) bytes))
at_feed bytes h =
    let k = position_or_len is_feed bytes in
    let tail : drop k bytes ≡ 10 ∷ drop 1 (drop k bytes) = headed (drop k bytes) (get_or bytes k 0) 10 (drop (suc k) bytes) (drop-cons bytes k 0 h) (passes_at_first is_feed bytes 0 h) in
    ap split_lines (sym (take-append-drop k bytes) ∙ ap (λ u. take k bytes ++ u) tail) ∙ cut (take k bytes) (drop 1 (drop k bytes)) (clean is_text bytes)

pub first_line : (bytes : List ℕ) (i : ℕ) → position is_feed bytes ≡ Some i → split_lines bytes ≡ without_return (take i bytes) ∷ split_lines (drop 1 (drop i bytes))
first_line bytes i e =
    let w = some_place (position_or_len is_feed bytes) (length bytes) i e in
    subst (λ (j : ℕ). split_lines bytes ≡ without_return (take j bytes) ∷ split_lines (drop 1 (drop j bytes))) w.0 (at_feed bytes w.1)

-- where no line feed is, there is one line
pub last_line : (bytes : List ℕ) → position is_feed bytes ≡ None → split_lines bytes ≡ bytes ∷ []
last_line bytes e =
    let h = none_place (position_or_len is_feed bytes) (length bytes) e in
    alone bytes (subst (λ (xs : List ℕ). list_all is_text xs ≡ true) (take_all (position_or_len is_feed bytes) bytes h) (clean is_text bytes))
