-- The number of a run of digits that stands behind a number.
use Rattle.std.specs.Prelude.{ℕ, ◌-◌, ◌^◌, min, List, Option, Some, None, if◌then◌else◌}
use Rattle.std.specs.Str.{all_ascii_digits}
use Rattle.std.specs.Str.Parse.{digits_value_after}

-- the number that the digits write behind those of another number, up to the greatest
abbrev pub number_after : ℕ → List ℕ → Option ℕ
number_after number digits = if all_ascii_digits digits then Some (min (digits_value_after 10 number digits) (2 ^ 64 - 1)) else None
