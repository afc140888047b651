-- Steps of loops that add what a function gives for each item of a list.
use Rattle.std.proofs.Common.{◌≡◌, ℕ, ◌+◌, ◌<◌, List, [], ◌∷◌, ◌++◌, length, get_or, take, drop, refl, sym, ap, ◌∙◌, subst, append_assoc, append-nil, arith, add-one}
use Rattle.std.specs.Prelude.{flat_map}
use Rattle.std.proofs.Math.Seq.{take-suc}
use Rattle.std.proofs.Common.{length-append}
use Rattle.std.proofs.lemmas.List.{take-append-drop}
use Rattle.ps_bucket_eval.specs.Solving.{inserted}
use Rattle.ps_bucket_eval.proofs.Sets.{inserted-append, inserted_longer}

module _ {X Y : Type 0} (f : X → List Y) where
  pub flat_append : (xs ys : List X) → flat_map f (xs ++ ys) ≡ flat_map f xs ++ flat_map f ys
  flat_append [] ys = refl
  flat_append (x ∷ xs) ys = ap (λ r. f x ++ r) (flat_append xs ys) ∙ sym (append_assoc (f x) (flat_map f xs) (flat_map f ys))

  -- one more item
  pub flat_more : (xs : List X) (i : ℕ) (x : X) → i < length xs → x ≡ get_or xs i x → flat_map f (take (i + 1) xs) ≡ flat_map f (take i xs) ++ f x
  flat_more xs i x lt is =
      ap (λ n. flat_map f (take n xs)) (add-one i)
      ∙ ap (flat_map f) (take-suc xs i x lt)
      ∙ flat_append (take i xs) (get_or xs i x ∷ [])
      ∙ ap (λ l. flat_map f (take i xs) ++ l) (append-nil (f (get_or xs i x)) ∙ ap f (sym is))

  -- all items, from those so far
  pub flat_all : (xs : List X) (i : ℕ) → flat_map f xs ≡ flat_map f (take i xs) ++ flat_map f (drop i xs)
  flat_all xs i = ap (flat_map f) (sym (take-append-drop i xs)) ∙ flat_append (take i xs) (drop i xs)

module _ {X : Type 0} (f : X → List (List ℕ)) (old now : List (List ℕ)) (xs : List X) (i : ℕ) (x : X) where
  pub named_more : i < length xs → x ≡ get_or xs i x → now ≡ inserted old (flat_map f (take i xs)) → inserted now (f x) ≡ inserted old (flat_map f (take (i + 1) xs))
  named_more lt is e =
      ap (λ s. inserted s (f x)) e
      ∙ sym (inserted-append old (flat_map f (take i xs)) (f x))
      ∙ ap (inserted old) (sym (flat_more f xs i x lt is))

  pub named_past : (room : ℕ) → i < length xs → x ≡ get_or xs i x → now ≡ inserted old (flat_map f (take i xs)) → room < length (inserted now (f x)) → room < length (inserted old (flat_map f xs))
  named_past room lt is e h =
      let more : room < length (inserted old (flat_map f (take (i + 1) xs))) = subst (λ s. room < length s) (named_more lt is e) h in
      let whole : inserted old (flat_map f xs) ≡ inserted (inserted old (flat_map f (take (i + 1) xs))) (flat_map f (drop (i + 1) xs)) =
      ap (inserted old) (flat_all f xs (i + 1)) ∙ inserted-append old (flat_map f (take (i + 1) xs)) (flat_map f (drop (i + 1) xs)) in
      omega (arith, more, ap length whole, inserted_longer (inserted old (flat_map f (take (i + 1) xs))) (flat_map f (drop (i + 1) xs)))

module _ {X Y : Type 0} (f : X → List Y) (old now : List Y) (xs : List X) (i : ℕ) (x : X) where
  pub added_more : i < length xs → x ≡ get_or xs i x → now ≡ old ++ flat_map f (take i xs) → now ++ f x ≡ old ++ flat_map f (take (i + 1) xs)
  added_more lt is e =
      ap (λ l. l ++ f x) e ∙ append_assoc old (flat_map f (take i xs)) (f x) ∙ ap (λ l. old ++ l) (sym (flat_more f xs i x lt is))

  pub added_past : (top : ℕ) → i < length xs → x ≡ get_or xs i x → now ≡ old ++ flat_map f (take i xs) → top < length (now ++ f x) → top < length (old ++ flat_map f xs)
  added_past top lt is e h =
      let more : top < length (old ++ flat_map f (take (i + 1) xs)) = subst (λ l. top < length l) (added_more lt is e) h in
      let whole : old ++ flat_map f xs ≡ (old ++ flat_map f (take (i + 1) xs)) ++ flat_map f (drop (i + 1) xs) =
      ap (λ l. old ++ l) (flat_all f xs (i + 1)) ∙ sym (append_assoc old (flat_map f (take (i + 1) xs)) (flat_map f (drop (i + 1) xs))) in
      omega (arith, more, ap length whole, length-append (old ++ flat_map f (take (i + 1) xs)) (flat_map f (drop (i + 1) xs)))
