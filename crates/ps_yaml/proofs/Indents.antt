-- One turn of the loop that leaves out a block's indent, and its ends.
use Rattle.std.proofs.Common.{◌≡◌, ℕ, zero, suc, ◌-◌, ◌<◌, ◌≤◌, List, [], ◌∷◌, true, false, refl, ap, ◌∙◌, arith}
use Rattle.ps_yaml.specs.Lines.{is_space_or_tab}
use Rattle.ps_yaml.specs.Scalars.{unindented}
use Rattle.ps_yaml.proofs.Binds.{if_true, if_false}

one_less : (n : ℕ) → n ≡ suc n - 1
one_less n = omega arith

pub unindented_more : (n b : ℕ) (t : List ℕ) → 0 < n → is_space_or_tab b ≡ true → unindented n (b ∷ t) ≡ unindented (n - 1) t
unindented_more zero b t some h = absurd (omega arith)
unindented_more (suc n) b t some h = if_true (is_space_or_tab b) _ _ h ∙ ap (λ (k : ℕ). unindented k t) (one_less n)

pub unindented_stop : (n b : ℕ) (t : List ℕ) → is_space_or_tab b ≡ false → unindented n (b ∷ t) ≡ b ∷ t
unindented_stop zero b t h = refl
unindented_stop (suc n) b t h = if_false (is_space_or_tab b) _ _ h

pub unindented_end : (n : ℕ) → unindented n [] ≡ []
unindented_end zero = refl
unindented_end (suc n) = refl

pub unindented_done : (n : ℕ) (t : List ℕ) → n ≤ 0 → unindented n t ≡ t
unindented_done zero t h = refl
unindented_done (suc n) t h = absurd (omega arith)
