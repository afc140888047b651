-- How what keys have changes.
use Rattle.std.specs.Prelude.{◌≡◌, ◌≢◌, Bool, List, Option, None, fold}
use Rattle.std.specs.Map.{update, update_all}
use Rattle.std.specs.List.{All}

-- what a list of rows has under a key: of several rows with one key the last
abbrev pub rows_at : {K V : Type 0} → (K → K → Bool) → List (K × V) → K → Option V
rows_at same rows = update_all same (λ _. None) rows

-- what keys have after changes, one after another
abbrev pub changed : {K V : Type 0} → (K → K → Bool) → (K → Option V) → List (K × Option V) → K → Option V
changed same at changes = fold (λ seen change. update same seen change.0 change.1) at changes

-- the changes make what keys have afterwards of what they had before, and none of them leaves a key as it was
pub record AreChanges {K V : Type 0} (same : K → K → Bool) (before after : K → Option V) (changes : List (K × Option V)) : Type 0 where
  pub reached : (key : K) → changed same before changes key ≡ after key
  pub differ : All (λ change. before change.0 ≢ change.1) changes
  pub written : All (λ change. after change.0 ≡ change.1) changes
