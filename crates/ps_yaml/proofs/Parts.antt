-- Steps of the loops that read the parts of a scalar.
use Rattle.std.proofs.Common.{◌≡◌, ℕ, ◌+◌, ◌≤◌, List, [], ◌∷◌, ◌++◌, false, ◌==◌, ◌&&◌, length, take, drop, sym, ap, ◌∙◌, append_assoc, arith}
use Rattle.ps_yaml.specs.Lines.{begins}
use Rattle.ps_yaml.specs.Scalars.{before_comment}
use Rattle.ps_yaml.proofs.Rests.{taken_more}

-- a byte that begins no comment
before_more : (x : ℕ) (ys : List ℕ) → (x == 32 && begins 35 ys) ≡ false → before_comment (x ∷ ys) ≡ x ∷ before_comment ys
before_more x ys h = grind arith

pub comment_step : (text rest : List ℕ) (i x : ℕ) (ys : List ℕ) → before_comment text ≡ take i text ++ before_comment rest → rest ≡ drop i text → rest ≡ x ∷ ys → (x == 32 && begins 35 ys) ≡ false
    → (before_comment text ≡ take (i + 1) text ++ before_comment ys) × (ys ≡ drop (i + 1) text) × (i + 1 ≤ length text)
comment_step text rest i x ys value is front h =
    let m = taken_more text i x ys (sym is ∙ front) in
    let more : before_comment rest ≡ x ∷ before_comment ys = ap before_comment front ∙ before_more x ys h in
    (value ∙ ap (λ u. take i text ++ u) more ∙ sym (append_assoc (take i text) (x ∷ []) (before_comment ys)) ∙ ap (λ u. u ++ before_comment ys) (sym m.0), sym m.1, omega (arith, m.2))
