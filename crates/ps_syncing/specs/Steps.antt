-- The steps of `sync`, each with the connections that it closes.
use Rattle.std.specs.Prelude.{◌≡◌, ℕ, Bool, true, false, List, [], ◌∷◌, ◌++◌, Option, Some, None, Result, Ok, Err}
use Rattle.ps_data.specs.declared.shortage.Memory as shortage
use Rattle.ps_rows.specs.declared.changes.Change.{Change}
use Rattle.ps_rows.specs.declared.shown.Shown.{Shown}
use Rattle.ps_showing.specs.Printing.{rows_text}
use Rattle.ps_doors.specs.Connections.{Connection}
use Rattle.ps_client_log.specs.Kept.{Kept}
use Rattle.ps_client.specs.Clients.{PlainClient, is_pending}
use Rattle.ps_client.specs.LocalWrites.{popped, keeping}
use Rattle.ps_syncing.specs.declared.faults.SyncFault.{SyncFault}
use Rattle.ps_syncing.specs.declared.faults.SyncFault.TheVariants.{NoCheckpoint, Memory}
use Rattle.ps_syncing.specs.declared.services.Service.{Service}
use Rattle.ps_syncing.specs.Exchanges.{Exchange, Closes}
use Rattle.ps_syncing.specs.Numbers.{IsUpload}
use Rattle.ps_syncing.specs.Runs.{AreUploads, AimsWhere, AreStreams, AreShown, Syncs, emptied}

-- a number was found in a body, or none
abbrev pub FindsNumber : Result (Option ℕ) shortage.Memory → Result ℕ SyncFault → Type 0
FindsNumber (Ok (Some number)) result = result ≡ Ok number
FindsNumber (Ok None) result = result ≡ Err NoCheckpoint
FindsNumber (Err fault) result = result ≡ Err Memory

-- the oldest local write, which waited, was uploaded and waits no more
pub record UploadsFirst (service : Service) (old new : PlainClient) (before now : Option (List Connection)) : Type 0 where
  pub change : Change
  pub changes : List Change
  pub one : Exchange
  pub waited : old.kept.queue ≡ change ∷ changes
  pub closed : Closes before now (one ∷ [])
  pub is : IsUpload service change one
  pub new_is : new ≡ keeping (popped old.kept) old

-- none waited
pub record UploadsNone (old new : PlainClient) (before now : Option (List Connection)) : Type 0 where
  pub none : old.kept.queue ≡ []
  pub closed : now ≡ before
  pub new_is : new ≡ old

abbrev pub UploadsOne : Bool → Service → PlainClient → PlainClient → Option (List Connection) → Option (List Connection) → Type 0
UploadsOne true service old new before now = UploadsFirst service old new before now
UploadsOne false service old new before now = UploadsNone old new before now

-- all that waited were uploaded, in order, and none waits any more
pub record UploadsAll (service : Service) (old new : PlainClient) (before now : Option (List Connection)) : Type 0 where
  pub exchanges : List Exchange
  pub closed : Closes before now exchanges
  pub each : AreUploads service old.kept.queue exchanges
  pub new_is : new ≡ keeping (emptied old.kept) old

-- some were uploaded, in order; these wait still
pub record UploadsSome (service : Service) (old new : PlainClient) (before now : Option (List Connection)) : Type 0 where
  pub sent : List Change
  pub exchanges : List Exchange
  pub queue_is : old.kept.queue ≡ sent ++ new.kept.queue
  pub closed : Closes before now exchanges
  pub each : AreUploads service sent exchanges
  pub new_is : new ≡ keeping (record old.kept { queue = new.kept.queue }) old

-- a write checkpoint was asked for exactly where the target was pending, and its number is the target
pub record AimsAt (service : Service) (old new : PlainClient) (before now : Option (List Connection)) : Type 0 where
  pub exchanges : List Exchange
  pub kept : Kept
  pub closed : Closes before now exchanges
  pub aims : AimsWhere (is_pending old.kept.target) service old.kept kept exchanges
  pub new_is : new ≡ keeping kept old

-- streams were refused, up to one of which a checkpoint was applied
pub record StreamsUntil (service : Service) (old new : PlainClient) (before now : Option (List Connection)) : Type 0 where
  pub exchanges : List Exchange
  pub closed : Closes before now exchanges
  pub are : AreStreams service old new exchanges

-- all of it was done, over the connections that were closed besides
pub record IsSynced (service : Service) (changes : List Change) (old new : PlainClient) (before now : Option (List Connection)) : Type 0 where
  pub exchanges : List Exchange
  pub closed : Closes before now exchanges
  pub syncs : Syncs service changes old new exchanges

-- the text is that of the rows that the client shows
abbrev pub Prints : PlainClient → List ℕ → Type 0
Prints client text = (rows : List Shown) × AreShown client rows × (text ≡ rows_text rows)
