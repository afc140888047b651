-- What a sink takes in several writes.
use Rattle.std.proofs.Common.{◌≡◌, ℕ, List, [], ◌++◌, Option, Some, None, sym, ap, ◌∙◌, append_assoc}
use Rattle.std.specs.Prelude.{option_map}
use Rattle.std.proofs.lemmas.List.{append-nil}
use Rattle.ps_io.specs.Contents.{Gains, GainsFront}

-- a sink that is as it was took nothing
pub Gains-none : (old new : Option (List ℕ)) → new ≡ old → Gains old new []
Gains-none None new same = same
Gains-none (Some taken) new same = same ∙ ap (λ (t : List ℕ). Some t) (sym (append-nil taken))

-- some bytes and then some more
pub Gains-append : (first between last : Option (List ℕ)) (xs ys : List ℕ) → Gains first between xs → Gains between last ys → Gains first last (xs ++ ys)
Gains-append None between last xs ys x y = y ∙ ap (λ (o : Option (List ℕ)). option_map (λ t. t ++ ys) o) x
Gains-append (Some taken) between last xs ys x y =
    y ∙ ap (λ (o : Option (List ℕ)). option_map (λ t. t ++ ys) o) x ∙ ap (λ (t : List ℕ). Some t) (append_assoc taken xs ys)

-- some bytes and then the first of some more
pub GainsFront-append : (first between last : Option (List ℕ)) (xs ys : List ℕ) → Gains first between xs → GainsFront between last ys → GainsFront first last (xs ++ ys)
GainsFront-append first between last xs ys x y =
    (xs ++ y.0, y.1, ap (λ (zs : List ℕ). xs ++ zs) y.2 ∙ sym (append_assoc xs y.0 y.1), Gains-append first between last xs y.0 x y.3)
