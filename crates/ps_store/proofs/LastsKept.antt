-- The last ids that writes gave, in what a plan made.
use Rattle.std.proofs.Common.{◌≡◌, ℕ, Bool, true, false, Option, List, [], ◌∷◌, refl, ap, ◌∙◌, map, arith}
use Rattle.std.specs.Prelude.{◌==◌, if◌then◌else◌}
use Rattle.std.proofs.lemmas.Bool.Decides.{nat_tests}
use Rattle.ps_data.specs.declared.columns.Column.{Column}
use Rattle.ps_data.specs.declared.ids.OpId.{OpId}
use Rattle.ps_store.specs.declared.plans.Made.{Made}
use Rattle.ps_store.specs.StoreGenerations.{kept_id, rows_made}
use Rattle.ps_store.specs.Tails.{ids}

abbrev pub kept_made : OpId → OpId → Made → Made
kept_made newest wrote m = record m { last = kept_id newest wrote m.last }

abbrev pub kept_ids : ℕ → ℕ → List ℕ → List ℕ
kept_ids newest wrote ns = map (λ (id : ℕ). if id == newest then wrote else id) ns

pub ids_kept : (newest wrote : OpId) (made : List Made) → ids (map (kept_made newest wrote) made) ≡ kept_ids newest.0 wrote.0 (ids made)
ids_kept newest wrote [] = refl
ids_kept newest wrote (m ∷ made) = λ i. by (m.last.0 == newest.0) i ∷ ids_kept newest wrote made i
  where
    by : (b : Bool) → (if b then wrote else m.last).0 ≡ (if b then wrote.0 else m.last.0)
    by true = refl
    by false = refl

pub rows_kept : (newest wrote : OpId) (made : List Made) → rows_made (map (kept_made newest wrote) made) ≡ rows_made made
rows_kept newest wrote [] = refl
rows_kept newest wrote (m ∷ made) = ap (λ (rows : List (Option (List Column))). m.row ∷ rows) (rows_kept newest wrote made)

-- where they are one, nothing changes
pub ids_same : (newest wrote : ℕ) (ns : List ℕ) → newest ≡ wrote → ns ≡ kept_ids newest wrote ns
ids_same newest wrote [] same = refl
ids_same newest wrote (n ∷ ns) same = λ i. by (n == newest) refl i ∷ ids_same newest wrote ns same i
  where
    is : (a b : ℕ) → (a == b) ≡ true → a ≡ b
    is a b e = grind (arith, nat_tests)

    by : (b : Bool) → (n == newest) ≡ b → n ≡ (if b then wrote else n)
    by true e = is n newest e ∙ same
    by false e = refl
