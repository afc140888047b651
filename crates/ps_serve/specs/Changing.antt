-- Requests that change the store: what the store does, and what is told of it.
use Rattle.std.specs.Prelude.{ℕ, List, Option, Result, Ok, Err}
use Rattle.ps_data.specs.declared.ids.Position.{Position}
use Rattle.ps_rows.specs.declared.changes.Change.{Change}
use Rattle.ps_write_cp.specs.declared.faults.NumberFault.{NumberFault}
use Rattle.ps_write_cp.specs.declared.faults.NumberFault.TheVariants as numbering
use Rattle.ps_store.specs.declared.events.Event.{Event}
use Rattle.ps_store.specs.declared.faults.FeedFault.{FeedFault}
use Rattle.ps_store.specs.declared.faults.FeedFault.TheVariants as feeding
use Rattle.ps_store.specs.declared.fixed.Fixed.{Fixed}
use Rattle.ps_store.specs.declared.stores.Store.{Store}
use Rattle.ps_store.specs.Stores.{Uploads, MakesNumber}
use Rattle.ps_serve.specs.declared.ends.End.{End}
use Rattle.ps_serve.specs.declared.ends.End.TheVariants.{Answered}
use Rattle.ps_serve.specs.declared.refusals.Refusal.TheVariants.{Conflict, Memory}
use Rattle.ps_serve.specs.Answers.{IsWritten, Refuses, body_answer, number_text, position_text}

-- ---- numbers

-- the number is told, or why there is none
abbrev pub TellsNumber : Result ℕ NumberFault → Option (List ℕ) → Option (List ℕ) → ℕ → ℕ → ℕ → End → Type 0
TellsNumber (Ok number) old new before now status end = IsWritten Answered 200 (body_answer (number_text number)) old new before now status end
TellsNumber (Err (numbering.NumberFull last)) old new before now status end = Refuses Conflict old new before now status end
TellsNumber (Err numbering.Memory) old new before now status end = Refuses Memory old new before now status end

-- the user's client was to get its next number, and this was told of it
pub record AnswersNumber (fixed : Fixed) (history : List Event) (user client : List ℕ) (store : Store) (old new : Option (List ℕ)) (before now status : ℕ) (end : End) : Type 0 where
  pub made : Result ℕ NumberFault
  pub makes : MakesNumber fixed history user client store made
  pub tells : TellsNumber made old new before now status end

-- ---- uploads

-- the position is told, or why there is none; no upload is refused for its position
abbrev pub TellsPosition : Result Position FeedFault → Option (List ℕ) → Option (List ℕ) → ℕ → ℕ → ℕ → End → Type 0
TellsPosition (Ok position) old new before now status end = IsWritten Answered 200 (body_answer (position_text position.0)) old new before now status end
TellsPosition (Err feeding.FeedClosed) old new before now status end = Refuses Conflict old new before now status end
TellsPosition (Err (feeding.NotRising last given)) old new before now status end = ⊥
TellsPosition (Err (feeding.PositionFull head)) old new before now status end = Refuses Conflict old new before now status end
TellsPosition (Err feeding.Memory) old new before now status end = Refuses Memory old new before now status end

-- no upload is refused for its position
abbrev pub IsUploadAnswer : Result Position FeedFault → Type 0
IsUploadAnswer (Ok position) = Unit {0}
IsUploadAnswer (Err feeding.FeedClosed) = Unit {0}
IsUploadAnswer (Err (feeding.NotRising last given)) = ⊥
IsUploadAnswer (Err (feeding.PositionFull head)) = Unit {0}
IsUploadAnswer (Err feeding.Memory) = Unit {0}

-- the changes were to be fed, and this was told of it
pub record AnswersUpload (fixed : Fixed) (history : List Event) (changes : List Change) (store : Store) (old new : Option (List ℕ)) (before now status : ℕ) (end : End) : Type 0 where
  pub fed : Result Position FeedFault
  pub feeds : Uploads fixed history changes store fed
  pub tells : TellsPosition fed old new before now status end
