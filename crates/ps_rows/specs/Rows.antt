-- The columns of a row.
use Rattle.std.specs.Prelude.{ℕ, List, [], ◌∷◌, Bool, true, ◌&&◌, not, bytes_eq, codes}
use Rattle.std.specs.Ordering.{nat_cmp, is_lt}
use Rattle.std.specs.Cmp.Lexicographic.{slice_cmp}
use Rattle.ps_data.specs.declared.columns.Column.{Column}

abbrev pub is_id : List ℕ → Bool
is_id name = bytes_eq name (codes "id")

-- each name is above the one before, and none is `id`
abbrev pub rises_from : List ℕ → List Column → Bool
rises_from name [] = true
rises_from name (column ∷ columns) = is_lt (slice_cmp nat_cmp name column.name) && not (is_id column.name) && rises_from column.name columns

-- the names rise, and none is `id`
abbrev pub is_row : List Column → Bool
is_row [] = true
is_row (column ∷ columns) = not (is_id column.name) && rises_from column.name columns
