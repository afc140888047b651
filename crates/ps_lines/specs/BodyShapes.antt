-- The shape of a request's body. Each member may be missing or null, and other members may be there too.
use Rattle.std.specs.Prelude.{ℕ, List, Bool, false, ◌&&◌, ◌||◌, is_some, option_and_then, unwrap_or, codes}
use Rattle.serde_json.specs.Data.{Data as Json}
use Rattle.serde_json.specs.Find.{get, as_bool, as_object}
use Rattle.ps_lines.specs.Shapes.{has_text, has_truth, has_null, lacks, may_have_text, has_list}

-- how far a bucket is held
abbrev pub is_position : Json → Bool
is_position d = has_text (codes "after") d && has_text (codes "name") d

-- a list of such, null, or nothing
abbrev pub may_have_positions : List ℕ → Json → Bool
may_have_positions name d = lacks name d || has_null name d || has_list is_position name d

-- an object, null, or nothing
abbrev pub may_have_object : List ℕ → Json → Bool
may_have_object name d = lacks name d || has_null name d || is_some (option_and_then as_object (get name d))

-- true or false, null, or nothing
abbrev pub may_have_truth : List ℕ → Json → Bool
may_have_truth name d = lacks name d || has_null name d || has_truth name d

-- true, null, or nothing
abbrev pub may_have_true : List ℕ → Json → Bool
may_have_true name d = lacks name d || has_null name d || unwrap_or (option_and_then as_bool (get name d)) false

abbrev pub is_body : Json → Bool
is_body d = is_some (as_object d) && may_have_positions (codes "buckets") d && may_have_text (codes "client_id") d
    && may_have_object (codes "parameters") d && may_have_true (codes "raw_data") d && may_have_truth (codes "include_checksum") d
