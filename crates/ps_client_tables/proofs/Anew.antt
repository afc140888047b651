-- What a store that was rolled back and opened anew shows.
use Rattle.std.proofs.Common.{◌≡◌, false, IsTrue, sym, subst, ◌∙◌, inl, inr}
use Rattle.std.proofs.lemmas.Bool.{cases_Bool, both_ways}
use Rattle.sqlite_trees.specs.View.{View, IsClean, IsOrdered, IsShaped, IsRolledBack}
use Rattle.sqlite_trees.specs.Objects.{catalog_tree, IsListed}
use Rattle.sqlite_catalog.specs.Listing.{IsSound}
use Rattle.sqlite_catalog.proofs.LayoutLemmas.{laid_out, objects_rise}
use Rattle.sqlite.specs.Steps.{IsFresh}
use Rattle.ps_client_tables.specs.Schemas.{client_schema}
use Rattle.ps_client_tables.specs.Tables.{AreTables, tables_in}

-- a store that is not broken is open
pub still_open : (v : View) → (v.is_open ≡ false → IsTrue v.is_broken) → v.is_broken ≡ false → IsTrue v.is_open
still_open v shut sound = elim (cases_Bool v.is_open) [ inl open' ↦ open' | inr closed ↦ absurd (both_ways v.is_broken sound (shut closed)) ]

pub fresh : (old new : View) → IsRolledBack old new → IsTrue new.is_open → new.is_broken ≡ false → IsTrue new.is_numbered → IsClean new → IsFresh new
fresh old new undone open' sound numbered clean =
    let kept = undone.kept clean in
    record { sound = sound; numbered = numbered; clean = (undone.undone open').0 ∙ sym (kept.committed open'); unmarked = kept.marks open' }

-- the trees of the schema are tables, whose rowids rise
pub in_order : (v : View) → IsListed (v.trees catalog_tree) v.shape v.reals → IsOrdered v.shape v.trees → IsSound client_schema v.trees → AreTables (tables_in v.trees)
in_order v listed ordered sound =
    let laid = laid_out listed (objects_rise v listed ordered) sound.lists.listed in
    record {
      buckets = subst (λ s. IsShaped s (v.trees 0)) laid.tables.0 (ordered 0);
      entries = subst (λ s. IsShaped s (v.trees 2)) laid.tables.1.0 (ordered 2);
      queue = subst (λ s. IsShaped s (v.trees 4)) laid.tables.1.1.0 (ordered 4);
      aim = subst (λ s. IsShaped s (v.trees 5)) laid.tables.1.1.1.0 (ordered 5);
      shown = subst (λ s. IsShaped s (v.trees 6)) laid.tables.1.1.1.1.0 (ordered 6);
    }
