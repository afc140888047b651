-- The store after a connection: at most one event more.
use Rattle.std.proofs.Common.{◌≡◌, ℕ, ◌≤◌, List, [], ◌∷◌, ◌++◌, Option, Ok, Err, length, sym, subst, arith}
use Rattle.std.specs.Prelude.{Result}
use Rattle.std.proofs.lemmas.List.{append-nil}
use Rattle.ps_data.specs.declared.ids.Position.{Position}
use Rattle.ps_rows.specs.declared.changes.Change.{Change}
use Rattle.ps_write_cp.specs.declared.faults.NumberFault.{NumberFault}
use Rattle.ps_write_cp.specs.declared.faults.NumberFault.TheVariants as numbering
use Rattle.ps_store.specs.declared.events.Event.{Event}
use Rattle.ps_store.specs.declared.events.Event.TheVariants.{Feed, WriteCheckpoint}
use Rattle.ps_store.specs.declared.faults.FeedFault.{FeedFault}
use Rattle.ps_store.specs.declared.faults.FeedFault.TheVariants as feeding
use Rattle.ps_store.specs.declared.fixed.Fixed.{Fixed}
use Rattle.ps_store.specs.declared.stores.Store.{Store}
use Rattle.ps_store.specs.Stores.{StoreStandsFor, Uploads, MakesNumber}
use Rattle.ps_serve.specs.declared.asked.Asked.{Asked}
use Rattle.ps_serve.specs.declared.asked.Asked.TheVariants as asked
use Rattle.ps_serve.specs.declared.ends.End.{End}
use Rattle.ps_serve.specs.declared.refusals.Refusal.{Refusal}
use Rattle.ps_serve.specs.Alone.{DoesSo}

-- the store stands for the history and at most one event more
abbrev pub ServesOn : Fixed → List Event → Store → Type 0
ServesOn fixed history store = (events : List Event) × (length events ≤ 1) × StoreStandsFor fixed store (history ++ events)

module _ (fixed : Fixed) (history : List Event) (old : Store) (serves : StoreStandsFor fixed old history) where
  none : (store : Store) → StoreStandsFor fixed store history → ServesOn fixed history store
  none store stands = ([], omega arith, subst (λ (events : List Event). StoreStandsFor fixed store events) (sym (append-nil history)) stands)

  one : (store : Store) (event : Event) → StoreStandsFor fixed store (history ++ event ∷ []) → ServesOn fixed history store
  one store event stands = (event ∷ [], omega arith, stands)

  same : (store : Store) → store ≡ old → ServesOn fixed history store
  same store is = none store (subst (λ (s : Store). StoreStandsFor fixed s history) (sym is) serves)

  number_serves : (user client : List ℕ) (store : Store) (made : Result ℕ NumberFault) → MakesNumber fixed history user client store made → ServesOn fixed history store
  number_serves user client store (Ok number) makes = one store (WriteCheckpoint user client) makes.2
  number_serves user client store (Err (numbering.NumberFull last)) makes = none store makes.2
  number_serves user client store (Err numbering.Memory) makes = none store makes.1

  upload_serves : (changes : List Change) (store : Store) (fed : Result Position FeedFault) → Uploads fixed history changes store fed → ServesOn fixed history store
  upload_serves changes store (Ok position) feeds = one store (Feed (record { position = position; changes = changes })) feeds.2
  upload_serves changes store (Err feeding.FeedClosed) feeds = none store feeds.1
  upload_serves changes store (Err (feeding.NotRising last given)) feeds = absurd feeds
  upload_serves changes store (Err (feeding.PositionFull head)) feeds = none store feeds.3
  upload_serves changes store (Err feeding.Memory) feeds = none store feeds.2

  pub does_serves : (may_give : ℕ → Type 0) (it : Result Asked Refusal) (store : Store) (taken taken' : Option (List ℕ)) (before now status : ℕ) (end : End)
      → DoesSo may_give fixed history it old store taken taken' before now status end → ServesOn fixed history store
  does_serves may_give (Ok (asked.Stream asker positions exp)) store taken taken' before now status end does = same store does.0
  does_serves may_give (Ok (asked.Number user client)) store taken taken' before now status end does = number_serves user client store does.made does.makes
  does_serves may_give (Ok (asked.Upload changes)) store taken taken' before now status end does = upload_serves changes store does.fed does.feeds
  does_serves may_give (Err refusal) store taken taken' before now status end does = same store does.0
