-- What a source has handed out, after a read.
use Rattle.std.proofs.Common.{◌≡◌, ℕ, zero, suc, ◌<◌, List, [], ◌++◌, Option, Some, None, take, refl, sym, ap, subst, ◌∙◌, arith}
use Rattle.std.proofs.lemmas.List.{append-nil}
use Rattle.ps_io.specs.Sources.{Input, Gives, GivesAll}
use Rattle.ps_answers.specs.Givings.{HasGiven}

-- it handed out more
pub HasGiven-more : (old new : Option Input) (xs ys : List ℕ) → Gives old new ys → HasGiven old xs → HasGiven new (xs ++ ys)
HasGiven-more None new xs ys gives given = subst (λ v. HasGiven v (xs ++ ys)) (sym gives) tt
HasGiven-more (Some old) new xs ys gives given = subst (λ v. HasGiven v (xs ++ ys)) (sym gives.2) (ap (λ v. v ++ ys) given)

-- it handed out nothing more and ended
pub HasGiven-end : (old new : Option Input) (xs : List ℕ) → GivesAll old new [] → HasGiven old xs → HasGiven new xs
HasGiven-end None new xs gives given = subst (λ v. HasGiven v xs) (sym gives) tt
HasGiven-end (Some old) new xs gives given = subst (λ v. HasGiven v xs) (sym gives.1) (append-nil old.given ∙ given)

-- what a read of so many bytes leaves handed out
pub HasGiven-read : (old new : Option Input) (xs part : List ℕ) (count : ℕ) → (0 < count → Gives old new (take count part))
    → (count ≡ 0 → GivesAll old new []) → HasGiven old xs → HasGiven new (xs ++ take count part)
HasGiven-read old new xs part zero next end given = subst (HasGiven new) (sym (append-nil xs)) (HasGiven-end old new xs (end refl) given)
HasGiven-read old new xs part (suc count) next end given =
    HasGiven-more old new xs (take (suc count) part) (next (omega arith)) given
