-- The laws of the order and the equality of values, of decimal texts and of plain JSON.
use Rattle.std.specs.Prelude.{false, ◌≡◌, ◌≢◌, ℕ, ◌≤◌, ◌⊎◌, ◌↔◌, List, Some, decimal}
use Rattle.std.specs.Ordering.{ordering_reverse}
use Rattle.std.specs.declared.cmp.Ordering.TheVariants.{Less, Equal}
use Rattle.serde_json.specs.Data.{Data}
use Rattle.serde_json.specs.Written.{has_float}
use Rattle.ps_data.specs.declared.values.Value.{Value}
use Rattle.ps_data.specs.Conversions.{plain_of}
use Rattle.ps_data.specs.declared.values.Value.TheVariants.{Null}
use Rattle.ps_data.specs.declared.values.Truth.TheVariants.{True}
use Rattle.ps_data.specs.Numbers.{greatest, decimal_of}
use Rattle.ps_data.specs.Values.{compare_values, equal_sql}

-- two values the other way round are in the reverse order
abbrev pub IsAntisymmetric : Type 0
IsAntisymmetric = (a b : Value) → compare_values b a ≡ ordering_reverse (compare_values a b)

abbrev pub IsTransitive : Type 0
IsTransitive = (a b c : Value) → compare_values a b ≡ Less → compare_values b c ≡ Less → compare_values a c ≡ Less

-- of two values one is below the other, or they are the same
abbrev pub IsTotal : Type 0
IsTotal = (a b : Value) → (compare_values a b ≡ Less) ⊎ ((a ≡ b) ⊎ (compare_values b a ≡ Less))

-- values are tied exactly where they are the same
abbrev pub TiesTheSame : Type 0
TiesTheSame = (a b : Value) → (compare_values a b ≡ Equal) ↔ (a ≡ b)

-- values are equal in SQL exactly where both are there and they are the same
abbrev pub IsEqualWherePresent : Type 0
IsEqualWherePresent = (a b : Value) → (equal_sql a b ≡ True) ↔ ((a ≢ Null) × (b ≢ Null) × (a ≡ b))

-- a number up to the greatest has exactly one decimal text, which is read as that number
abbrev pub ReadsWhatIsWritten : Type 0
ReadsWhatIsWritten = (text : List ℕ) (n : ℕ) → (decimal_of text ≡ Some n) ↔ ((n ≤ greatest) × (text ≡ decimal n))

-- JSON that stays as it is where it is made plain has no float
abbrev pub HasNoFloatWherePlain : Type 0
HasNoFloatWherePlain = (d : Data) → plain_of d ≡ d → has_float d ≡ false
