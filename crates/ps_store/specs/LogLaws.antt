-- What the logs of every history are.
use Rattle.std.specs.Prelude.{◌≡◌, ℕ, ◌≤◌, List, fold, None, IfSome}
use Rattle.ps_bucket_log.specs.declared.ops.Key.{Key}
use Rattle.ps_bucket_log.specs.Buckets.{Bucket, after, bucket_of}
use Rattle.ps_bucket_log.specs.Logs.{AreEntries}
use Rattle.ps_bucket_log.specs.Ops.{upto, newest}
use Rattle.ps_bucket_log.specs.Standing.{StandsFor, IsHonest, IsHonestUpTo}
use Rattle.ps_definitions.specs.RuleSets.{RuleSet}
use Rattle.ps_store.specs.declared.events.Event.{Event}
use Rattle.ps_store.specs.Ledgers.{Ledger, ledger_of, IsLegal}
use Rattle.ps_store.specs.Originals.{in_bucket}
use Rattle.ps_store.specs.Readings.{batch_of}

-- what was written to a bucket has rising ids up to the last one; the bucket's log stands for it at the op of its last compaction, which
-- is at most the checkpoint's
pub record LogStands (l : Ledger) (bucket : List ℕ) : Type 0 where
  pub entries : AreEntries 0 (in_bucket bucket l.entered)
  pub within : newest (in_bucket bucket l.entered) ≤ l.last
  pub stands : StandsFor (l.log bucket) (in_bucket bucket l.entered) (l.level bucket)
  pub level : l.level bucket ≤ l.op

abbrev pub LogsStand : Type 0
LogsStand = (rules : RuleSet) (history : List Event) → IsLegal rules history → (bucket : List ℕ) → LogStands (ledger_of rules history) bucket

-- ---- for every reader's position

-- a reader of a bucket of whatever generation, over a ledger, that asks up to c
pub record ComesThrough (l : Ledger) (name : List ℕ) (reader : Bucket) (c : ℕ) : Type 0 where
  -- who is not passed by stays honest
  pub honest : (batch_of l name reader.position c).passed ≡ None
      → IsHonest (fold after reader (batch_of l name reader.position c).ops) (in_bucket name l.entered) l.op
  -- and honest up to c, where no target is past it
  pub up_to : IsHonestUpTo reader (in_bucket name l.entered) l.op c → IfSome (batch_of l name reader.position c).target (λ target. target.0 ≤ c)
      → IsHonestUpTo (fold after reader (batch_of l name reader.position c).ops) (in_bucket name l.entered) l.op c
  -- who has reached the newest operation up to c, is not past c and is honest up to it, holds what the original holds there
  pub whole : newest (upto c (in_bucket name l.entered)) ≤ reader.position → reader.position ≤ c → IsHonestUpTo reader (in_bucket name l.entered) l.op c
      → (reader.total ≡ (bucket_of (upto c (in_bucket name l.entered))).total) × ((key : Key) → reader.held key ≡ (bucket_of (upto c (in_bucket name l.entered))).held key)

-- so does each honest one, over each legal history, with c at most the checkpoint's op
abbrev pub ReadersComeThrough : Type 0
ReadersComeThrough = (rules : RuleSet) (history : List Event) → IsLegal rules history → (name : List ℕ) (reader : Bucket) (c : ℕ) → c ≤ (ledger_of rules history).op
    → IsHonest reader (in_bucket name (ledger_of rules history).entered) (ledger_of rules history).op → ComesThrough (ledger_of rules history) name reader c
