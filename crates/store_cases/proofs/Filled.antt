-- The changes of a body have tables.
use Rattle.std.proofs.Common.{◌≢◌, ℕ, ◌<◌, List, [], ◌∷◌, All, length, refl, arith}
use Rattle.std.proofs.lemmas.List.Elements.{All-nil, All-cons}
use Rattle.serde_json.specs.Data.{Items}
use Rattle.ps_rows.specs.declared.changes.Change.{Change}
use Rattle.ps_changes.specs.Grammar.{AreChanges, no_changes, with_change, IsBody}

has_bytes : (text : List ℕ) → text ≢ [] → 0 < length text
has_bytes [] some = absurd (some refl)
has_bytes (byte ∷ bytes) some = omega arith

listed_filled : {list : Items} {changes : List Change} → AreChanges list changes → All (λ (change : Change). 0 < length change.table) changes
listed_filled no_changes = All-nil (λ (change : Change). 0 < length change.table)
listed_filled (with_change d list change changes is more) =
    All-cons (λ (change : Change). 0 < length change.table) change changes (has_bytes change.table is.filled) (listed_filled more)

pub all_filled : (bytes : List ℕ) (changes : List Change) → IsBody bytes changes → All (λ (change : Change). 0 < length change.table) changes
all_filled bytes changes body = listed_filled body.is.each
