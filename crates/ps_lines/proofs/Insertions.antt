-- A member more of an object.
use Rattle.std.proofs.Common.{◌≡◌, List, String, string_bytes, string_cmp, ap, ◌∙◌}
use Rattle.std.specs.BTreeMap.{insert_entry}
use Rattle.std.specs.declared.alloc.Global.{Global}
use Rattle.serde_json.specs.Data.{put}
use Rattle.serde_json.specs.View.{view, members_view}
use Rattle.serde_json.specs.declared.value.Value.{Value as Json}
use Rattle.serde_json.proofs.Views.{members_view-insert_entry}

pub put_more : (es fs : List (String Global × Json)) (k : String Global) (v : Json) → fs ≡ insert_entry string_cmp es k v → members_view fs ≡ put (string_bytes k) (view v) (members_view es)
put_more es fs k v h = ap members_view h ∙ members_view-insert_entry es k v
