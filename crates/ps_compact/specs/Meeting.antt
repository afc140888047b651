-- What was met of keys, from the newest operation on.
use Rattle.std.specs.Prelude.{Option, None}
use Rattle.std.specs.declared.cmp.Ordering.{Ordering}
use Rattle.std.specs.Ordering.{nat_cmp, ordering_then}
use Rattle.std.specs.Cmp.Lexicographic.{slice_cmp}
use Rattle.std.specs.BTreeMap.{BTreeMap, get_by}
use Rattle.std.specs.Borrow.{Bor}
use Rattle.ps_data.specs.declared.ids.OpId.{OpId}
use Rattle.ps_bucket_log.specs.declared.ops.Key.{Key}
use Rattle.ps_bucket_log.specs.declared.ops.Op.{Op}
use Rattle.ps_bucket_log.specs.declared.ops.Op.TheVariants.{Put, Remove, Move, Clear}

-- the order of keys: by kind, then by id, then by subkey
abbrev pub key_cmp : Key → Key → Ordering
key_cmp a b = ordering_then (slice_cmp nat_cmp a.kind b.kind) (ordering_then (slice_cmp nat_cmp a.id b.id) (slice_cmp nat_cmp a.subkey b.subkey))

-- the id that was met of a key
abbrev pub id_met : BTreeMap (Bor Key) OpId → Key → Option OpId
id_met met key = get_by (λ own. key_cmp key own.now) met

-- the id that was met of an operation's key
abbrev pub target_among : (Key → Option OpId) → Op → Option OpId
target_among met (Put id key content sum) = met key
target_among met (Remove id key sum) = met key
target_among met (Move id sum target) = None
target_among met (Clear id sum target) = None
