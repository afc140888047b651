-- The laws of compaction. An original is all that was ever written to a bucket; a log stands for it at the level of its last compaction.
use Rattle.std.specs.Prelude.{◌≡◌, ℕ, ◌≤◌, List, ◌++◌, IfSome, fold}
use Rattle.ps_bucket_log.specs.declared.ops.Key.{Key}
use Rattle.ps_bucket_log.specs.declared.ops.Op.{Op}
use Rattle.ps_bucket_log.specs.Ops.{upto, past, newest, sum_of, greatest_target}
use Rattle.ps_bucket_log.specs.Buckets.{Bucket, after, bucket_of}
use Rattle.ps_bucket_log.specs.Logs.{AreEntries, IsLog}
use Rattle.ps_bucket_log.specs.Standing.{StandsFor, IsHonest, IsHonestUpTo}
use Rattle.ps_compact.specs.Compaction.{compacted}

-- what is compacted is a log
abbrev pub CompactedIsLog : Type 0
CompactedIsLog = (log : List Op) (level : ℕ) → IsLog log → IsLog (compacted level log)

-- a second compaction at the same level changes nothing
abbrev pub TwiceIsOnce : Type 0
TwiceIsOnce = (log : List Op) (level : ℕ) → compacted level (compacted level log) ≡ compacted level log

-- what stands at a level stands, compacted at that level or a later one, at that one
abbrev pub CompactedStands : Type 0
CompactedStands = (log original : List Op) (level later : ℕ) → AreEntries 0 original → level ≤ later
    → StandsFor log original level → StandsFor (compacted later log) original later

-- from the level on, sums and newest ids are the original's
abbrev pub KeepsSums : Type 0
KeepsSums = (log original : List Op) (level later high : ℕ) → AreEntries 0 original → level ≤ later → later ≤ high
    → StandsFor log original level
    → (sum_of (upto high (compacted later log)) ≡ sum_of (upto high original)) × (newest (upto high (compacted later log)) ≡ newest (upto high original))

-- a batch that is read after compaction keeps a reader honest, wherever it stands
abbrev pub KeepsHonest : Type 0
KeepsHonest = (log original : List Op) (level later op high : ℕ) (bucket : Bucket) (batch left : List Op)
    → AreEntries 0 original → level ≤ later → StandsFor log original level → later ≤ op → high ≤ op
    → upto high (past bucket.position (compacted later log)) ≡ batch ++ left
    → IsHonest bucket original op → IsHonest (fold after bucket batch) original op

-- and honest up to c, where the batch's target is at most c
abbrev pub KeepsHonestUpTo : Type 0
KeepsHonestUpTo = (log original : List Op) (level later op high c : ℕ) (bucket : Bucket) (batch left : List Op)
    → AreEntries 0 original → level ≤ later → StandsFor log original level → high ≤ op
    → upto high (past bucket.position (compacted later log)) ≡ batch ++ left
    → IfSome (greatest_target batch) (λ target. target.0 ≤ c)
    → IsHonestUpTo bucket original op c → IsHonestUpTo (fold after bucket batch) original op c

-- a reader that with such a batch reaches the newest id up to c holds what the original holds there, with its total
abbrev pub MakesWhole : Type 0
MakesWhole = (log original : List Op) (level later op high c : ℕ) (bucket : Bucket) (batch left : List Op)
    → AreEntries 0 original → level ≤ later → StandsFor log original level → high ≤ op
    → upto high (past bucket.position (compacted later log)) ≡ batch ++ left
    → IfSome (greatest_target batch) (λ target. target.0 ≤ c)
    → newest (upto c original) ≤ (fold after bucket batch).position → (fold after bucket batch).position ≤ c
    → IsHonestUpTo bucket original op c
    → ((fold after bucket batch).total ≡ (bucket_of (upto c original)).total)
    × ((key : Key) → (fold after bucket batch).held key ≡ (bucket_of (upto c original)).held key)
