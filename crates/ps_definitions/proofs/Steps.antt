-- Answers that are the same value.
use Rattle.std.proofs.Common.{◌≡◌, ◌∙◌, Result, Ok, Err}
use Rattle.std.specs.Prelude.{IfOk}

-- an answer that is one value is the other, where both are the same
pub ok_as : {A E : Type 0} (r : Result A E) (a b : A) → a ≡ b → IfOk r (λ x. x ≡ a) → IfOk r (λ x. x ≡ b)
ok_as (Ok x) a b e h = h ∙ e
ok_as (Err fault) a b e h = tt
