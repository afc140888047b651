-- What a turn at the store's lock begins with, and what it leaves.
use Rattle.std.proofs.Common.{◌≡◌, ℕ, ◌+◌, List, [], ◌∷◌, ◌++◌, length, sym, ap, ◌∙◌, subst}
use Rattle.std.specs.Prelude.{Result, Ok, Err, IfOk}
use mathlib.Core.List.{IsPrefix}
use Rattle.ps_data.specs.declared.shortage.Memory.{Memory}
use Rattle.ps_rows.specs.declared.changes.Change.{Change}
use Rattle.ps_rows.specs.declared.changes.Transaction.{Transaction}
use Rattle.ps_definitions.specs.RuleSets.{RuleSet}
use Rattle.ps_lock.specs.declared.tables.Seat.{Seat}
use Rattle.ps_lock.specs.declared.tables.StoreLock.{StoreLock}
use Rattle.ps_lock.specs.declared.tables.Turn.{Turn}
use Rattle.ps_kept.specs.declared.values.Kept.{Ghosts}
use Rattle.ps_lock.specs.Words.{seen_by, own_entries_of, own_entries_in, history_of, value_of}
use Rattle.ps_store.specs.declared.deploying.DeployFault.{DeployFault}
use Rattle.ps_store.specs.declared.deploying.DeployFault.TheVariants as deploying
use Rattle.ps_store.specs.declared.deploying.SwitchFault.{SwitchFault}
use Rattle.ps_store.specs.declared.deploying.SwitchFault.TheVariants as switching
use Rattle.ps_store.specs.declared.events.Event.{Event}
use Rattle.ps_store.specs.declared.faults.FeedFault.{FeedFault}
use Rattle.ps_store.specs.declared.faults.FeedFault.TheVariants as feeding
use Rattle.ps_store.specs.declared.faults.CompactFault.{CompactFault}
use Rattle.ps_store.specs.declared.faults.CompactFault.TheVariants as compacting
use Rattle.ps_store.specs.declared.fixed.Fixed.{Fixed}
use Rattle.ps_store.specs.declared.stores.Store.{Store}
use Rattle.ps_write_cp.specs.declared.faults.NumberFault.{NumberFault}
use Rattle.ps_write_cp.specs.declared.faults.NumberFault.TheVariants as numbering
use Rattle.ps_store.specs.Deploys.{Deploys, Switches}
use Rattle.ps_store.specs.Ledgers.{ledger_of}
use Rattle.ps_store.specs.Stores.{StoreStandsFor, Feeds, Uploads, MakesNumber, Compacts}
use Rattle.ps_store.specs.Totals.{bucket_names_of}
use Rattle.ps_workers.specs.declared.shared.SharedStore.{SharedStore}
use Rattle.ps_workers.specs.declared.shared.Terms.{Terms}
use Rattle.ps_workers.specs.Compactions.{CompactsIn}
use Rattle.ps_workers.specs.Gains.{LooksAt, AddsTo, FeedsIn, UploadsIn, NumbersIn}
use Rattle.ps_workers.specs.Renewals.{DeploysIn, IsUnswitched}
use Rattle.ps_workers.specs.Sharing.{terms_of, fixed_of}
use Rattle.ps_workers.specs.Terms.{DeploysOnly, terms_by, KeepsShared, IsStoodFor}
use Rattle.ps_workers.proofs.Narrow.{MayCome}
use Rattle.ps_workers.proofs.Working.{all_both}

-- a shared store stands for a history, under a lock's terms, which are its own
abbrev pub Stands : StoreLock SharedStore Event Terms → SharedStore → List Event → Type 0
Stands lock shared history = (terms_by shared ≡ terms_of lock) × KeepsShared (terms_of lock) shared history

-- what is lent in a turn, and another store in its place
module _ (lock : StoreLock SharedStore Event Terms) (turn : Turn SharedStore Event Terms) (lent : SharedStore) (same : lent ≡ value_of turn)
    (stands : Stands lock (value_of turn) (history_of turn)) where
  pub kept : KeepsShared (terms_of lock) lent (history_of turn)
  kept = subst (λ (x : SharedStore). KeepsShared (terms_of lock) x (history_of turn)) (sym same) stands.1

  -- it stands for the history at which the turn came
  pub begins : StoreStandsFor (fixed_of lock) lent.store (history_of turn)
  begins = kept.stands

  next_is : lent.next.value ≡ (terms_of lock).next
  next_is = ap (λ (x : SharedStore). x.next.value) same ∙ ap (λ (t : Terms). t.next) stands.0

  own_terms : (new : Store) → new.fixed ≡ fixed_of lock → terms_by (record lent { store = new }) ≡ terms_of lock
  own_terms new is = λ i. record { fixed = is i; next = next_is i }

  pub keeps : (new : Store) → StoreStandsFor (fixed_of lock) new (history_of turn) → KeepsShared (terms_of lock) (record lent { store = new }) (history_of turn)
  keeps new h = record { stands = h; deploys = kept.deploys; narrow = kept.narrow }

  pub keeps_more : (event : Event) (new : Store) → StoreStandsFor (fixed_of lock) new (history_of turn ++ event ∷ []) → MayCome (terms_of lock) (history_of turn) event
      → KeepsShared (terms_of lock) (record lent { store = new }) (history_of turn ++ event ∷ [])
  keeps_more event new h may = record {
    stands = h;
    deploys = all_both (DeploysOnly (terms_of lock).next) (history_of turn) (event ∷ []) kept.deploys (may.deploys, tt);
    narrow = may.narrow;
  }

  -- the turn may end so
  pub leaves : (new : Store) → turn.lock.now ≡ lock → StoreStandsFor (fixed_of lock) new (history_of turn) → Stands turn.lock.now (record lent { store = new }) (history_of turn)
  leaves new lock_is h =
      subst (λ (k : StoreLock SharedStore Event Terms). Stands k (record lent { store = new }) (history_of turn)) (sym lock_is) (own_terms new h.fixed_is, keeps new h)

  pub leaves_with : (event : Event) (new : Store) → turn.lock.now ≡ lock → StoreStandsFor (fixed_of lock) new (history_of turn ++ event ∷ []) → MayCome (terms_of lock) (history_of turn) event
      → Stands turn.lock.now (record lent { store = new }) (history_of turn ++ event ∷ [])
  leaves_with event new lock_is h may =
      subst (λ (k : StoreLock SharedStore Event Terms). Stands k (record lent { store = new }) (history_of turn ++ event ∷ [])) (sym lock_is) (own_terms new h.fixed_is, keeps_more event new h may)

module _ {d : Ghosts SharedStore Event Terms} (before after : Seat SharedStore Event Terms d) (turn : Turn SharedStore Event Terms) (knew : IsPrefix (seen_by before) (history_of turn))
    (had : own_entries_in turn ≡ own_entries_of before) where
  pub looks : seen_by after ≡ history_of turn → own_entries_of after ≡ own_entries_in turn → LooksAt (history_of turn) before after
  looks seen own = record { knew = knew; seen = seen; own = own ∙ had }

  pub adds : (event : Event) → seen_by after ≡ history_of turn ++ event ∷ [] → own_entries_of after ≡ own_entries_in turn ++ (event, length (history_of turn) + 1) ∷ []
      → AddsTo (history_of turn) event before after
  adds event seen own = record { knew = knew; seen = seen; own = own ∙ ap (λ (es : List (Event × ℕ)). es ++ (event, length (history_of turn) + 1) ∷ []) had }

-- a feed that was refused
pub refused_feed : {d : Ghosts SharedStore Event Terms} (fixed : Fixed) (history : List Event) (t : Transaction) (before after : Seat SharedStore Event Terms d) (new : Store) (fault : FeedFault)
    → LooksAt history before after → Feeds fixed history t new (Err fault) → FeedsIn fixed history t before after (Err fault)
refused_feed fixed history t before after new feeding.FeedClosed looked said = (looked, said.0)
refused_feed fixed history t before after new (feeding.NotRising last given) looked said = (looked, said.0, said.1, said.2, said.3)
refused_feed fixed history t before after new (feeding.PositionFull head) looked said = absurd said
refused_feed fixed history t before after new feeding.Memory looked said = looked

pub refused_stands : (fixed : Fixed) (history : List Event) (t : Transaction) (new : Store) (fault : FeedFault) → Feeds fixed history t new (Err fault) → StoreStandsFor fixed new history
refused_stands fixed history t new feeding.FeedClosed said = said.1
refused_stands fixed history t new (feeding.NotRising last given) said = said.4
refused_stands fixed history t new (feeding.PositionFull head) said = absurd said
refused_stands fixed history t new feeding.Memory said = said.2

-- an upload that was refused
pub refused_upload : {d : Ghosts SharedStore Event Terms} (fixed : Fixed) (history : List Event) (changes : List Change) (before after : Seat SharedStore Event Terms d) (new : Store) (fault : FeedFault)
    → LooksAt history before after → Uploads fixed history changes new (Err fault) → UploadsIn fixed history changes before after (Err fault)
refused_upload fixed history changes before after new feeding.FeedClosed looked said = (looked, said.0)
refused_upload fixed history changes before after new (feeding.NotRising last given) looked said = absurd said
refused_upload fixed history changes before after new (feeding.PositionFull head) looked said = (looked, said.0, said.1, said.2)
refused_upload fixed history changes before after new feeding.Memory looked said = looked

pub upload_stands : (fixed : Fixed) (history : List Event) (changes : List Change) (new : Store) (fault : FeedFault) → Uploads fixed history changes new (Err fault) → StoreStandsFor fixed new history
upload_stands fixed history changes new feeding.FeedClosed said = said.1
upload_stands fixed history changes new (feeding.NotRising last given) said = absurd said
upload_stands fixed history changes new (feeding.PositionFull head) said = said.3
upload_stands fixed history changes new feeding.Memory said = said.2

-- a number that was refused
pub refused_number : {d : Ghosts SharedStore Event Terms} (fixed : Fixed) (history : List Event) (user client : List ℕ) (before after : Seat SharedStore Event Terms d) (new : Store) (fault : NumberFault)
    → LooksAt history before after → MakesNumber fixed history user client new (Err fault) → NumbersIn fixed history user client before after (Err fault)
refused_number fixed history user client before after new (numbering.NumberFull last) looked said = (looked, said.0, said.1)
refused_number fixed history user client before after new numbering.Memory looked said = looked

pub number_stands : (fixed : Fixed) (history : List Event) (user client : List ℕ) (new : Store) (fault : NumberFault) → MakesNumber fixed history user client new (Err fault) → StoreStandsFor fixed new history
number_stands fixed history user client new (numbering.NumberFull last) said = said.2
number_stands fixed history user client new numbering.Memory said = said.1

-- a compaction that was refused
pub refused_compaction : {d : Ghosts SharedStore Event Terms} (terms : Terms) (history : List Event) (bucket : List ℕ) (before after : Seat SharedStore Event Terms d) (new : Store) (fault : CompactFault)
    → IsStoodFor terms history → LooksAt history before after → Compacts terms.fixed history bucket new (Err fault) → CompactsIn terms history bucket before after (Err fault)
refused_compaction terms history bucket before after new compacting.NoBucket stood looked said = (looked, stood, said.0)
refused_compaction terms history bucket before after new compacting.Memory stood looked said = looked

pub compaction_stands : (fixed : Fixed) (history : List Event) (bucket : List ℕ) (new : Store) (fault : CompactFault) → Compacts fixed history bucket new (Err fault) → StoreStandsFor fixed new history
compaction_stands fixed history bucket new compacting.NoBucket said = said.1
compaction_stands fixed history bucket new compacting.Memory said = said.1

-- a deploy that was refused
pub refused_deploy : {d : Ghosts SharedStore Event Terms} (terms : Terms) (history : List Event) (rules : RuleSet) (before after : Seat SharedStore Event Terms d) (new : Store) (fault : DeployFault)
    → IsStoodFor terms history → LooksAt history before after → Deploys terms.fixed history rules new (Err fault) → DeploysIn terms history rules before after (Err fault)
refused_deploy terms history rules before after new (deploying.Building generation) stood looked said = (looked, stood, said.0)
refused_deploy terms history rules before after new (deploying.GenerationFull last) stood looked said = (looked, stood, said.0, said.1, said.2)
refused_deploy terms history rules before after new deploying.Memory stood looked said = looked

pub deploy_stands : (fixed : Fixed) (history : List Event) (rules : RuleSet) (new : Store) (fault : DeployFault) → Deploys fixed history rules new (Err fault) → StoreStandsFor fixed new history
deploy_stands fixed history rules new (deploying.Building generation) said = said.1
deploy_stands fixed history rules new (deploying.GenerationFull last) said = said.3
deploy_stands fixed history rules new deploying.Memory said = said.2

-- a switch that was refused
pub refused_switch : (fixed : Fixed) (history : List Event) (new : Store) (fault : SwitchFault) → Switches fixed history new (Err fault) → IsUnswitched fixed.limits (ledger_of fixed.rules history) fault
refused_switch fixed history new switching.NothingBuilding said = said.0
refused_switch fixed history new (switching.NotBuilt left) said = (said.0, said.1)
refused_switch fixed history new (switching.HalfWritten changes) said = (said.0, said.1, said.2, said.3)
refused_switch fixed history new (switching.OpsFull last) said = (said.0, said.1, said.2, said.3, said.4)

pub switch_stands : (fixed : Fixed) (history : List Event) (new : Store) (fault : SwitchFault) → Switches fixed history new (Err fault) → StoreStandsFor fixed new history
switch_stands fixed history new switching.NothingBuilding said = said.1
switch_stands fixed history new (switching.NotBuilt left) said = said.2
switch_stands fixed history new (switching.HalfWritten changes) said = said.4
switch_stands fixed history new (switching.OpsFull last) said = said.5

-- the names that a store gave, at the history that it stands for
pub names_at : (fixed : Fixed) (history : List Event) (store : Store) → StoreStandsFor fixed store history → (result : Result (List (List ℕ)) Memory)
    → IfOk result (λ names. (f : Fixed) (h : List Event) → StoreStandsFor f store h → names ≡ bucket_names_of (ledger_of f.rules h)) → IfOk result (λ names. names ≡ bucket_names_of (ledger_of fixed.rules history))
names_at fixed history store stands (Ok names) told = told fixed history stands
names_at fixed history store stands (Err refused) told = tt
