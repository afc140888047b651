-- What a source hands out in several reads.
use Rattle.std.proofs.Common.{◌≡◌, ℕ, true, Bool, List, [], ◌++◌, Option, Some, None, refl, sym, ap, subst, ◌∙◌, append_assoc}
use Rattle.std.proofs.lemmas.List.{append-nil}
use Rattle.ps_io.specs.Sources.{Input, Gives, GivesAll}

abbrev input : List ℕ → Bool → List ℕ → Option Input
input left ended given = Some (record { left = left; given = given; ended = ended })

-- a source that is as it was handed out nothing
pub Gives-none : (all : Option Input) → Gives all all []
Gives-none None = refl
Gives-none (Some old) = (old.left, refl, ap (input old.left old.ended) (sym (append-nil old.given)))

-- some bytes and then some more
pub Gives-append : (first then' last : Option Input) (xs ys : List ℕ) → Gives first then' xs → Gives then' last ys → Gives first last (xs ++ ys)
Gives-append None then' last xs ys x y = subst (λ v. Gives v last ys) x y
Gives-append (Some old) then' last xs ys x y =
    let more : Gives (input x.0 old.ended (old.given ++ xs)) last ys = subst (λ v. Gives v last ys) x.2 y in (
      more.0,
      x.1 ∙ ap (λ rest. xs ++ rest) more.1 ∙ sym (append_assoc xs ys more.0),
      more.2 ∙ ap (input more.0 old.ended) (append_assoc old.given xs ys),
    )

-- some bytes and then the end
pub GivesAll-append : (first then' last : Option Input) (xs : List ℕ) → Gives first then' xs → GivesAll then' last [] → GivesAll first last xs
GivesAll-append None then' last xs x y = subst (λ v. GivesAll v last []) x y
GivesAll-append (Some old) then' last xs x y =
    let end : GivesAll (input x.0 old.ended (old.given ++ xs)) last [] = subst (λ v. GivesAll v last []) x.2 y in (
      x.1 ∙ ap (λ rest. xs ++ rest) end.0 ∙ append-nil xs,
      end.1 ∙ ap (input [] true) (append-nil (old.given ++ xs)),
    )

-- a read that failed took nothing
pub Gives-failed : (first then' last : Option Input) (xs : List ℕ) → Gives first then' xs → last ≡ then' → Gives first last xs
Gives-failed first then' last xs x y = subst (λ v. Gives first v xs) (sym y) x
