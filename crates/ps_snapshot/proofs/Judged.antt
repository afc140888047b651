-- What is judged of a line, step by step.
use Rattle.std.proofs.Common.{◌≡◌, ℕ, ◌<◌, ◌≤◌, true, false, cond, Err, sym, ap, ◌∙◌, arith}
use Rattle.std.specs.Prelude.{nat_lt}
use Rattle.std.proofs.lemmas.Bool.Decides.{nat_tests}
use Rattle.ps_data.specs.declared.ids.Position.{Position}
use Rattle.ps_snapshot.specs.Types.{Line, BadChunk, NotRising}
use Rattle.ps_snapshot.specs.FirstCopies.{FirstCopy, belongs, position_of}
use Rattle.ps_snapshot.specs.Judging.{covered, judged}

lt_is : (a b : ℕ) → a < b → nat_lt a b ≡ true
lt_is a b h = grind (arith, nat_tests)

le_is : (a b : ℕ) → b ≤ a → nat_lt a b ≡ false
le_is a b h = grind (arith, nat_tests)

-- a line that does not belong where it stands
pub misplaced : (copy : FirstCopy) (line : Line) → belongs copy line ≡ false → judged copy line ≡ Err BadChunk
misplaced copy line h =
    ap (λ b. cond b (cond (nat_lt copy.last (position_of line).0) (covered copy line) (Err (NotRising (record { 0 = copy.last }) (position_of line)))) (Err BadChunk)) h

-- one that does, and is past the last line, or not
pub late : (copy : FirstCopy) (line : Line) (last given : Position) → belongs copy line ≡ true → last.0 ≡ copy.last → given ≡ position_of line → given.0 ≤ last.0
    → judged copy line ≡ Err (NotRising last given)
late copy line last given b is same low =
    let here : (position_of line).0 ≤ copy.last = omega (arith, low, is, ap (λ (p : Position). p.0) same) in
    ap (λ b. cond b (cond (nat_lt copy.last (position_of line).0) (covered copy line) (Err (NotRising (record { 0 = copy.last }) (position_of line)))) (Err BadChunk)) b
    ∙ ap (λ t. cond t (covered copy line) (Err (NotRising (record { 0 = copy.last }) (position_of line)))) (le_is copy.last (position_of line).0 here)
    ∙ ap (λ n. Err (NotRising (record { 0 = n }) (position_of line))) (sym is)
    ∙ ap (λ p. Err (NotRising last p)) (sym same)

pub on_time : (copy : FirstCopy) (line : Line) (last given : Position) → belongs copy line ≡ true → last.0 ≡ copy.last → given ≡ position_of line → last.0 < given.0
    → judged copy line ≡ covered copy line
on_time copy line last given b is same low =
    let here : copy.last < (position_of line).0 = omega (arith, low, is, ap (λ (p : Position). p.0) same) in
    ap (λ b. cond b (cond (nat_lt copy.last (position_of line).0) (covered copy line) (Err (NotRising (record { 0 = copy.last }) (position_of line)))) (Err BadChunk)) b
    ∙ ap (λ t. cond t (covered copy line) (Err (NotRising (record { 0 = copy.last }) (position_of line)))) (lt_is copy.last (position_of line).0 here)
