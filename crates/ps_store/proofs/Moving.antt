-- What is being built stands on while a transaction is fed and while what is reached is committed.
use Rattle.std.proofs.Common.{◌≡◌, ℕ, ◌≤◌, Option, Some, None, List, ◌++◌, ◌∙◌, arith}
use Rattle.ps_bucket_log.specs.declared.ops.Op.{Op}
use Rattle.ps_definitions.specs.RuleSets.{RuleSet}
use Rattle.ps_params.specs.Indexes.{Index}
use Rattle.ps_store.specs.declared.building.Building.{Building}
use Rattle.ps_store.specs.declared.fixed.Limits.{Limits}
use Rattle.ps_store.specs.declared.generations.Generations.{Generations}
use Rattle.ps_store.specs.Generations.{Coming, Ended}
use Rattle.ps_store.specs.Originals.{Timed}
use Rattle.ps_store.specs.StoreGenerations.{log_in, BuildingStands, GenerationsStand, IndexStandsFor, IsBuilding}
use Rattle.ps_store.specs.Tails.{Ascend}

-- whatever is in front, what ascends goes on ascending
abbrev pub GoesOnUp : List Timed → ℕ → List Timed → ℕ → Type 0
GoesOnUp waiting head more later = (last : ℕ) (queue : List Timed) → Ascend last (queue ++ waiting) head → Ascend last (queue ++ more) later

pub same_up : (waiting : List Timed) (head : ℕ) → GoesOnUp waiting head waiting head
same_up waiting head last queue h = h

index_moved : (index : Index) (by : RuleSet) (floor above : ℕ) (changes queue waiting more : List Timed) (head later : ℕ) → floor ≤ above → GoesOnUp waiting head more later
    → IndexStandsFor index by floor changes (queue ++ waiting) head → IndexStandsFor index by above changes (queue ++ more) later
index_moved index by floor above changes queue waiting more head later up goes h = record {
  rules = h.rules;
  forgotten = omega (arith, h.forgotten, up);
  notes = λ table id position past. h.notes table id position (omega (arith, up, past));
  ascend = goes index.last queue h.ascend;
}

module _ (log : List ℕ → List Op) (position above : ℕ) (waiting more : List Timed) (head later : ℕ) (up : position ≤ above) (goes : GoesOnUp waiting head more later) where
  building_moved : (built : Building) (coming : Coming) → BuildingStands built coming log position waiting head → BuildingStands built coming log above more later
  building_moved built coming h = record {
    number = h.number;
    mark = h.mark;
    rules = h.rules;
    logs = h.logs;
    rows = h.rows;
    index = index_moved built.index coming.lane.rules position above _ coming.queue waiting more head later up goes h.index;
    queue = h.queue;
    narrow = h.narrow;
  }

  option_moved : (limits : Limits) (built : Option Building) (coming : Option Coming) → IsBuilding limits log position waiting head built coming → IsBuilding limits log above more later built coming
  option_moved limits None None h = tt
  option_moved limits None (Some coming) h = absurd h
  option_moved limits (Some built) None h = absurd h
  option_moved limits (Some built) (Some coming) h = (building_moved built coming h.0, h.1)

  pub generations_moved : (limits : Limits) (generations : Generations) (number : ℕ) (coming : Option Coming) (begun : ℕ) (ended : List Ended)
      → GenerationsStand limits generations number coming begun ended log position waiting head → GenerationsStand limits generations number coming begun ended log above more later
  generations_moved limits generations number coming begun ended h = record {
    number_is = h.number_is;
    mark_is = h.mark_is;
    begun_is = h.begun_is;
    building_is = option_moved limits generations.building coming h.building_is;
    endings = h.endings;
    places = h.places;
  }

-- ---- and while the logs of others change

abbrev pub KeepsLogs : (List ℕ → List Op) → (List ℕ → List Op) → Option Coming → Type 0
KeepsLogs log more None = Unit {0}
KeepsLogs log more (Some coming) = (bucket : List ℕ) → log_in coming.lane.number log bucket ≡ log_in coming.lane.number more bucket

module _ (log more : List ℕ → List Op) (position : ℕ) (waiting : List Timed) (head : ℕ) where
  option_logged : (limits : Limits) (built : Option Building) (coming : Option Coming) → KeepsLogs log more coming → IsBuilding limits log position waiting head built coming
      → IsBuilding limits more position waiting head built coming
  option_logged limits None None keeps h = tt
  option_logged limits None (Some coming) keeps h = absurd h
  option_logged limits (Some built) None keeps h = absurd h
  option_logged limits (Some built) (Some coming) keeps h = (
    record {
      number = h.0.number;
      mark = h.0.mark;
      rules = h.0.rules;
      logs = λ bucket. h.0.logs bucket ∙ keeps bucket;
      rows = h.0.rows;
      index = h.0.index;
      queue = h.0.queue;
      narrow = h.0.narrow;
    },
    h.1,
  )

  pub generations_logged : (limits : Limits) (generations : Generations) (number : ℕ) (coming : Option Coming) (begun : ℕ) (ended : List Ended) → KeepsLogs log more coming
      → GenerationsStand limits generations number coming begun ended log position waiting head → GenerationsStand limits generations number coming begun ended more position waiting head
  generations_logged limits generations number coming begun ended keeps h = record {
    number_is = h.number_is;
    mark_is = h.mark_is;
    begun_is = h.begun_is;
    building_is = option_logged limits generations.building coming keeps h.building_is;
    endings = h.endings;
    places = h.places;
  }
