-- The shapes of changes and transactions: which members are there, and of which kind. Other members may be there too.
use Rattle.std.specs.Prelude.{ℕ, List, length, nat_lt, Bool, true, false, ◌&&◌, if◌then◌else◌, Option, Some, None, is_some, option_and_then, bytes_eq, codes}
use Rattle.serde_json.specs.Data.{Data as Json, Items, no_items, item}
use Rattle.serde_json.specs.Find.{get, as_str, as_array, as_object}

abbrev pub has_text : List ℕ → Json → Bool
has_text name d = is_some (option_and_then as_str (get name d))

abbrev pub has_object : List ℕ → Json → Bool
has_object name d = is_some (option_and_then as_object (get name d))

abbrev pub is_filled : Option (List ℕ) → Bool
is_filled None = false
is_filled (Some text) = nat_lt 0 (length text)

-- a text that is not empty
abbrev pub has_filled_text : List ℕ → Json → Bool
has_filled_text name d = is_filled (option_and_then as_str (get name d))

-- a PUT has a row besides, and a DELETE needs none; there is no other operation
abbrev pub is_op : Option (List ℕ) → Json → Bool
is_op None d = false
is_op (Some op) d = if bytes_eq op (codes "PUT") then has_object (codes "row") d else bytes_eq op (codes "DELETE")

abbrev pub is_change : Json → Bool
is_change d = has_filled_text (codes "table") d && has_text (codes "id") d && is_op (option_and_then as_str (get (codes "op") d)) d

abbrev pub are_changes : Items → Bool
are_changes no_items = true
are_changes (item d ds) = is_change d && are_changes ds

abbrev pub is_list : Option Items → Bool
is_list None = false
is_list (Some ds) = are_changes ds

-- a list of changes
abbrev pub has_changes : Json → Bool
has_changes d = is_list (option_and_then as_array (get (codes "changes") d))

-- and a text as the position
abbrev pub is_transaction : Json → Bool
is_transaction d = has_text (codes "pos") d && has_changes d
