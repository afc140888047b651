-- Readers come through compactions and the ends of generations, by the laws of one bucket.
use Rattle.std.proofs.Common.{ℕ, List, Option, Some, None, refl, inl, inr}
use Rattle.std.proofs.lemmas.Bool.{cases_lt, lt-ltb, le-ltb}
use Rattle.ps_bucket_log.specs.declared.ops.Op.{Op}
use Rattle.ps_bucket_log.specs.Laws.{StaysHonest, StaysHonestUpTo, WholeAtNewest, ReadsLongestFront}
use Rattle.ps_bucket_log.specs.Logs.{cleared}
use Rattle.ps_store.specs.Generations.{Ending, Switched, Abandoned, ending_of}
use Rattle.ps_store.specs.Ledgers.{Ledger, ledger_of}
use Rattle.ps_store.specs.LogLaws.{LogsStand, LogStands, ReadersComeThrough}
use Rattle.ps_store.specs.Originals.{in_bucket}
use Rattle.ps_store.specs.Readings.{batch_in}
use Rattle.ps_store.proofs.Lawful.{Reads, nothing, front}

reads : ReadsLongestFront → (e : Option Ending) (ops : List Op) (low high : ℕ) → Reads ops low high (batch_in e ops low high)
reads longest None ops low high = elim (cases_lt high (cleared ops)) [
  | inl above ↦ rw (lt-ltb high (cleared ops) above) (nothing refl refl)
  | inr within ↦ let is = ((longest low high ops).taken within).1.front in front is.0 (longest low high ops).target is.1
]
reads longest (Some (Switched id)) ops low high = elim (cases_lt high id) [
  | inl above ↦ rw (lt-ltb high id above) (nothing refl refl)
  | inr within ↦ rw (le-ltb high id within) (nothing refl refl)
]
reads longest (Some Abandoned) ops low high = nothing refl refl

pub come_through : LogsStand → StaysHonest → StaysHonestUpTo → WholeAtNewest → ReadsLongestFront → ReadersComeThrough
come_through stand honest up_to whole longest rules history legal name reader c low is =
    let l : Ledger = ledger_of rules history in
    let s : LogStands l name = stand rules history legal name in
    let r = reads longest (ending_of name l.ended) (l.log name) reader.position c in
    record {
      honest = λ none. elim r [
        | nothing empty no_target ↦ rw empty is
        | front left target split ↦ honest (l.log name) (in_bucket name l.entered) (l.level name) l.op c reader _ left s.stands s.entries s.level low split is
      ];
      up_to = λ from targets. elim r [
        | nothing empty no_target ↦ rw empty from
        | front left target split ↦ up_to (l.log name) (in_bucket name l.entered) (l.level name) l.op c c reader _ left s.stands s.entries low split (rw target at targets) from
      ];
      whole = λ reached within from. whole (in_bucket name l.entered) l.op c reader s.entries reached within from;
    }
