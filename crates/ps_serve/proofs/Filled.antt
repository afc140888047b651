-- No change that is read has an empty table.
use Rattle.std.proofs.Common.{◌≢◌, ℕ, ◌<◌, List, [], ◌∷◌, All, length, refl, arith}
use Rattle.std.proofs.lemmas.List.Elements.{All-nil, All-cons}
use Rattle.serde_json.specs.Data.{Items}
use Rattle.ps_rows.specs.declared.changes.Change.{Change}
use Rattle.ps_changes.specs.Grammar.{AreChanges, no_changes, with_change, IsBody}

abbrev has_table : Change → Type 0
has_table change = 0 < length change.table

some : (bytes : List ℕ) → bytes ≢ [] → 0 < length bytes
some [] filled = absurd (filled refl)
some (byte ∷ bytes) filled = omega arith

each : (list : Items) (changes : List Change) → AreChanges list changes → All has_table changes
each list changes no_changes = All-nil has_table
each list changes (with_change d ds change rest is more) = All-cons has_table change rest (some change.table is.filled) (each ds rest more)

pub all_filled : (bytes : List ℕ) (changes : List Change) → IsBody bytes changes → All has_table changes
all_filled bytes changes body = each body.is.list changes body.is.each
