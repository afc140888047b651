-- What the program keeps, and the room that edits want.
use Rattle.std.specs.Prelude.{ℕ, ◌≤◌, if◌then◌else◌, List, bytes_eq, length, sum_by, unwrap_or}
use Rattle.indexmap.specs.IndexMap.{IndexMap, get}
use Rattle.ps_client_log.specs.declared.edits.Edit.{Edit}
use Rattle.ps_client_log.specs.declared.edits.Edit.TheVariants.{Take, Delete, Push, Pop, Aim, Show}
use Rattle.ps_client_log.specs.declared.holdings.Holdings.{Holdings}
use Rattle.ps_client_log.specs.Kept.{Kept, shown_in}
use Rattle.ps_client_log.specs.Images.{bucket_found, room_for}

abbrev pub kept_by : Holdings → Kept
kept_by holdings = record {
  bucket = bucket_found holdings.buckets;
  queue = holdings.queue.items;
  target = holdings.target;
  shown = shown_in holdings.shown;
}

-- how many operations an edit brings to the bucket of a name
abbrev pub brings : List ℕ → Edit → ℕ
brings name (Take bucket ops) = if bytes_eq bucket name then length ops else 0
brings name (Delete bucket) = 0
brings name (Push change) = 0
brings name Pop = 0
brings name (Aim target) = 0
brings name (Show rows) = 0

-- how many changes an edit brings to the queue
abbrev pub pushes : Edit → ℕ
pushes (Take bucket ops) = 0
pushes (Delete bucket) = 0
pushes (Push change) = 1
pushes Pop = 0
pushes (Aim target) = 0
pushes (Show rows) = 0

-- there is room for all that the edits bring
pub record HasRoom (holdings : Holdings) (edits : List Edit) : Type 0 where
  pub entries : (name : List ℕ) → sum_by (brings name) edits ≤ room_for holdings.buckets name
  pub queue : sum_by pushes edits ≤ holdings.queue.room

-- the room that a map gives to a name
abbrev pub given : {S : Type 0} → IndexMap (List ℕ) ℕ S → List ℕ → ℕ
given rooms name = unwrap_or (get bytes_eq rooms name) 0
