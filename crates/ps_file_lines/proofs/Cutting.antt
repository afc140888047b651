-- What stands before the first byte of a kind, and what stands behind it.
use Rattle.std.proofs.Common.{◌≡◌, ℕ, suc, ◌+◌, ◌<◌, Bool, true, false, not, cond, List, [], ◌∷◌, Option, Some, None, length, take, drop, ltb, refl, sym, ap, ◌∙◌, arith, subst, MatchOption, Bor, one-add, add-one}
use Rattle.std.specs.Prelude.{◌==◌, IfSome}
use Rattle.std.specs.List.{slice_split, position, position_or_len, onto_first}
use Rattle.std.specs.Option.{option_copied}
use Rattle.std.proofs.lemmas.Bool.Decides.{nat_tests}
use Rattle.std.proofs.lemmas.Option.{cond_some}
use Rattle.ps_file_lines.specs.Lines.{lines_of}
use Rattle.ps_file_lines.specs.Cuts.{cut}

-- one byte more before what was cut
abbrev next : Bool → ℕ → List ℕ → List ℕ × Option (List ℕ) → List ℕ × Option (List ℕ)
next b x xs own = cond b ([], Some xs) (x ∷ own.0, own.1)

-- ---- by the place of the first such byte

less_suc : (m n : ℕ) (b : Bool) → ltb (1 + m) (suc n) ≡ b → ltb m n ≡ b
less_suc m n true h = grind (arith, nat_tests)
less_suc m n false h = grind (arith, nat_tests)

some_left : (n : ℕ) → ltb 0 (suc n) ≡ false → ⊥
some_left n h = grind (arith, nat_tests)

none_left : ltb 0 0 ≡ true → ⊥
none_left h = grind (arith, nat_tests)

take_more : (m x : ℕ) (xs front : List ℕ) → front ≡ take m xs → x ∷ front ≡ take (1 + m) (x ∷ xs)
take_more m x xs front h = rw one-add (ap (λ ys. x ∷ ys) h)

drop_more : (m x : ℕ) (xs : List ℕ) → drop (m + 1) xs ≡ drop (1 + m + 1) (x ∷ xs)
drop_more m x xs = rw (one-add, add-one, add-one) refl

first : (at : ℕ) (xs : List ℕ) → ltb (position_or_len (λ b. b == at) xs) (length xs) ≡ true
    → ((cut at xs).0 ≡ take (position_or_len (λ b. b == at) xs) xs) × ((cut at xs).1 ≡ Some (drop (position_or_len (λ b. b == at) xs + 1) xs))
first at [] h = absurd (none_left h)
first at (x ∷ xs) h =
    elim (x == at) as (λ b. ltb (cond (not b) (1 + position_or_len (λ b. b == at) xs) 0) (suc (length xs)) ≡ true
    → ((next b x xs (cut at xs)).0 ≡ take (cond (not b) (1 + position_or_len (λ b. b == at) xs) 0) (x ∷ xs))
    × ((next b x xs (cut at xs)).1 ≡ Some (drop (cond (not b) (1 + position_or_len (λ b. b == at) xs) 0 + 1) (x ∷ xs)))) [
      | true ↦ λ g. (refl, refl)
      | false ↦ λ g.
          let own = first at xs (less_suc (position_or_len (λ b. b == at) xs) (length xs) true g) in
          (take_more (position_or_len (λ b. b == at) xs) x xs (cut at xs).0 own.0, own.1 ∙ ap Some (drop_more (position_or_len (λ b. b == at) xs) x xs))
    ] h

pub cut_some : (at : ℕ) (xs : List ℕ) (i : ℕ) → position (λ b. b == at) xs ≡ Some i → ((cut at xs).0 ≡ take i xs) × ((cut at xs).1 ≡ Some (drop (i + 1) xs))
cut_some at xs i h =
    let p : ℕ → Bool = λ b. b == at in
    let both = cond_some (ltb (position_or_len p xs) (length xs)) (position_or_len p xs) i h in
    let own = first at xs both.0 in
    (own.0 ∙ ap (λ n. take n xs) both.1, own.1 ∙ ap (λ n. Some (drop (n + 1) xs)) both.1)

whole : (at : ℕ) (xs : List ℕ) → ltb (position_or_len (λ b. b == at) xs) (length xs) ≡ false → ((cut at xs).0 ≡ xs) × ((cut at xs).1 ≡ None)
whole at [] h = (refl, refl)
whole at (x ∷ xs) h =
    elim (x == at) as (λ b. ltb (cond (not b) (1 + position_or_len (λ b. b == at) xs) 0) (suc (length xs)) ≡ false
    → ((next b x xs (cut at xs)).0 ≡ x ∷ xs) × ((next b x xs (cut at xs)).1 ≡ None)) [
      | true ↦ λ g. absurd (some_left (length xs) g)
      | false ↦ λ g.
          let own = whole at xs (less_suc (position_or_len (λ b. b == at) xs) (length xs) false g) in
          (ap (λ ys. x ∷ ys) own.0, own.1)
    ] h

not_within : (b : Bool) (n : ℕ) → cond b (Some n) None ≡ None → b ≡ false
not_within true n h = cc
not_within false n h = refl

pub cut_none : (at : ℕ) (xs : List ℕ) → position (λ b. b == at) xs ≡ None → ((cut at xs).0 ≡ xs) × ((cut at xs).1 ≡ None)
cut_none at xs h =
    let p : ℕ → Bool = λ b. b == at in
    whole at xs (not_within (ltb (position_or_len p xs) (length xs)) (position_or_len p xs) h)

-- ---- lines

-- one byte more before the first part
onto : (at x : ℕ) (front : List ℕ) (rest : Option (List ℕ)) (parts : List (List ℕ))
    → MatchOption rest (parts ≡ front ∷ []) (λ more. parts ≡ front ∷ slice_split (λ b. b == at) more)
    → MatchOption rest (onto_first x parts ≡ (x ∷ front) ∷ []) (λ more. onto_first x parts ≡ (x ∷ front) ∷ slice_split (λ b. b == at) more)
onto at x front None parts h = ap (onto_first x) h
onto at x front (Some more) parts h = ap (onto_first x) h

split_cut : (at : ℕ) (xs : List ℕ) → MatchOption (cut at xs).1 (slice_split (λ b. b == at) xs ≡ (cut at xs).0 ∷ []) (λ rest. slice_split (λ b. b == at) xs ≡ (cut at xs).0 ∷ slice_split (λ b. b == at) rest)
split_cut at [] = refl
split_cut at (x ∷ xs) =
    elim (x == at) as (λ b. MatchOption (next b x xs (cut at xs)).1
    (cond b ([] ∷ slice_split (λ b. b == at) xs) (onto_first x (slice_split (λ b. b == at) xs)) ≡ (next b x xs (cut at xs)).0 ∷ [])
    (λ rest. cond b ([] ∷ slice_split (λ b. b == at) xs) (onto_first x (slice_split (λ b. b == at) xs)) ≡ (next b x xs (cut at xs)).0 ∷ slice_split (λ b. b == at) rest)) [
      | true ↦ refl
      | false ↦ onto at x (cut at xs).0 (cut at xs).1 (slice_split (λ b. b == at) xs) (split_cut at xs)
    ]

pub lines_by : (bytes front : List ℕ) (rest : Option (Bor (List ℕ))) → front ≡ (cut 10 bytes).0 → option_copied rest ≡ (cut 10 bytes).1 → IfSome rest (λ more. length more.now < length bytes)
    → MatchOption rest (lines_of bytes ≡ front ∷ []) (λ more. (lines_of bytes ≡ front ∷ lines_of more.now) × (length more.now < length bytes))
lines_by bytes front None is behind shorter =
    let meant = subst (λ o. MatchOption o (lines_of bytes ≡ (cut 10 bytes).0 ∷ []) (λ more. lines_of bytes ≡ (cut 10 bytes).0 ∷ lines_of more)) (sym behind) (split_cut 10 bytes) in
    rw is meant
lines_by bytes front (Some more) is behind shorter =
    let meant = subst (λ o. MatchOption o (lines_of bytes ≡ (cut 10 bytes).0 ∷ []) (λ more. lines_of bytes ≡ (cut 10 bytes).0 ∷ lines_of more)) (sym behind) (split_cut 10 bytes) in
    (rw is meant, shorter)
