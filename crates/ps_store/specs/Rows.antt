-- The live rows of the store.
use Rattle.std.specs.Prelude.{◌≡◌, ℕ, Bool, T, List, [], ◌∷◌, Option, Some, None, is_some}
use Rattle.std.specs.BTreeMap.{get}
use Rattle.std.specs.FinMap.Entries.{find, is_sorted}
use Rattle.std.specs.Ordering.{nat_cmp, ordering_then}
use Rattle.std.specs.declared.cmp.Ordering.{Ordering}
use Rattle.ps_rows.specs.Source.{Key, key_cmp, Version, Source}
use Rattle.ps_store.specs.declared.rows.Rows.{Rows}
use Rattle.ps_store.specs.Originals.{Timed}

-- what stands in a place
abbrev pub in_place : Option (Option Version) → Option Version
in_place None = None
in_place (Some row) = row

-- a row with its moment, where it is there
abbrev pub row_at : Rows → Key → Option Version
row_at rows key = in_place (get key_cmp rows.places key)

-- there is a place for the row
abbrev pub has_place : Rows → Key → Bool
has_place rows key = is_some (get key_cmp rows.places key)

-- the rows that are there
abbrev pub live_with : Key → Option Version → Source → Source
live_with key None rest = rest
live_with key (Some row) rest = (key, row) ∷ rest

abbrev pub live_in : List (Key × Option Version) → Source
live_in [] = []
live_in (e ∷ es) = live_with e.0 e.1 (live_in es)

-- ---- the changes that left rows

-- rows are in the order of their keys, and no two were left at one moment
pub record HaveOwnMoments (source : Source) : Type 0 where
  pub sorted : T (is_sorted key_cmp source)
  pub differ : (k l : Key) (v w : Version) → find key_cmp k source ≡ Some v → find key_cmp l source ≡ Some w → v.position ≡ w.position → v.index ≡ w.index → k ≡ l

-- the moment of a change, and the order of moments
abbrev pub moment_of : Timed → ℕ × ℕ
moment_of t = (t.position, t.index)

abbrev pub moment_cmp : ℕ × ℕ → ℕ × ℕ → Ordering
moment_cmp a b = ordering_then (nat_cmp a.0 b.0) (nat_cmp a.1 b.1)
