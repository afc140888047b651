-- Beginnings of a history.
use Rattle.std.proofs.Common.{◌≡◌, ◌+◌, List, [], ◌∷◌, ◌++◌, length, sym, ap, ◌∙◌, arith, append_assoc, append-nil, length-append}
use mathlib.Core.List.{IsPrefix}

module _ {A : Type 0} where
  -- what was seen before, and one more
  pub one_more : (before history after : List A) (event : A) → IsPrefix before history → after ≡ history ++ event ∷ []
      → length after ≡ length before + 1 → after ≡ before ++ event ∷ []
  one_more before history after event ([], front) is one = is ∙ ap (λ h. h ++ event ∷ []) (sym front ∙ append-nil before)
  one_more before history after event (x ∷ xs, front) is one =
      let a = ap length is in
      let b = length-append history (event ∷ []) in
      let c = ap length front in
      let d = length-append before (x ∷ xs) in
      absurd (omega arith)

  pub prefix_trans : (xs ys zs : List A) → IsPrefix xs ys → IsPrefix ys zs → IsPrefix xs zs
  prefix_trans xs ys zs (more, is) (rest, so) = (more ++ rest, sym (append_assoc xs more rest) ∙ (ap (λ l. l ++ rest) is ∙ so))
