-- Numbers that are read digit by digit.
use Rattle.std.proofs.Common.{◌≡◌, ℕ, ◌+◌, ◌-◌, ◌*◌, ◌<◌, ◌≤◌, List, [], ◌∷◌, length, get_or, drop, arith}
use Rattle.std.proofs.lemmas.List.{at_drop_more}
use Rattle.ps_sql.specs.Words.{decimal_after}

-- further digits make no number smaller
pub decimal_after_grows : (value : ℕ) (digits : List ℕ) → value ≤ decimal_after value digits
decimal_after_grows value [] = omega arith
decimal_after_grows value (digit ∷ digits) = omega (arith, decimal_after_grows (value * 10 + (digit - 48)) digits)

pub decimal_after-drop : (value : ℕ) (digits : List ℕ) (i d : ℕ) → i < length digits
    → decimal_after value (drop i digits) ≡ decimal_after (value * 10 + (get_or digits i d - 48)) (drop (i + 1) digits)
decimal_after-drop value digits i d h = at_drop_more (decimal_after value) digits i d h

pub ruleset steps = (decimal_after_grows, decimal_after-drop)
