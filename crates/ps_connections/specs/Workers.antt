-- The workers of connections, and what is known of each.
use Rattle.std.specs.Prelude.{◌≡◌, ℕ, ◌+◌, List, [], ◌∷◌, Option, MatchOption, Bool, ◌||◌, is_some}
use Rattle.ps_io.specs.declared.clocks.Clock as Clock
use Rattle.ps_io.specs.declared.outputs.Sink as Sink
use Rattle.ps_io.specs.declared.sources.Source as Source
use Rattle.ps_doors.specs.Connections.{Connection, AreEnds, IsFresh}
use Rattle.ps_lock.specs.Words.{IsSeatOf, seen_by, own_entries_of}
use Rattle.ps_store.specs.declared.events.Event.{Event}
use Rattle.ps_workers.specs.Sharing.{fixed_of}
use Rattle.ps_serve.specs.declared.sites.Site.{Site}
use Rattle.ps_serve.specs.Readers.{Lock}
use Rattle.ps_connections.specs.declared.works.Done.{Done}
use Rattle.ps_connections.specs.declared.works.Task.{Task}
use Rattle.ps_connections.specs.declared.works.Worker.{Worker}
use Rattle.ps_connections.specs.Tasks.{HasAnswered}

-- it is in its thread, or has given something back
abbrev pub is_there : {S K C : Type 0} → Worker S K C → Bool
is_there worker = is_some worker.child || is_some worker.done

module _ {S K C : Type 0} (g : Source.Ghosts S) (h : Sink.Ghosts K) (t : Clock.Ghosts C) (lock : Lock) (site : Site) (clock : C) (before : List Event) where
  -- the connection of these ends was answered, by a seat of the lock that had seen `before` and had no own entries
  pub record HasDone (from : S) (to : K) (done : Done S K) : Type 0 where
    pub seat : IsSeatOf lock done.seat
    pub answered : HasAnswered g h (fixed_of lock) site (t.may_give clock) before (seen_by done.seat) [] (own_entries_of done.seat) from to done.from done.to done.end

  -- it was given these ends, and such a seat
  pub record IsGiven (from : S) (to : K) (task : Task S K C) : Type 0 where
    pub lock_is : task.lock.value ≡ lock
    pub site_is : task.site.value ≡ site
    pub clock_is : task.clock.value ≡ clock
    pub from_is : task.from.value ≡ from
    pub to_is : task.to.value ≡ to
    pub seen_is : seen_by task.seat.value ≡ before
    pub own_is : own_entries_of task.seat.value ≡ []

  -- it is in its thread, or at its end
  abbrev pub IsAtWork : S → K → Worker S K C → Type 0
  IsAtWork from to worker = MatchOption worker.child (MatchOption worker.done ⊥ (λ done. HasDone from to done)) (λ child. IsGiven from to child.promise)

  -- the worker of the connection of that number, which the doors handed out while these were closed
  pub record IsWorkerOf (closed : Option (List Connection)) (number : ℕ) (worker : Worker S K C) : Type 0 where
    pub from : S
    pub to : K
    pub at_work : IsAtWork from to worker
    pub ends : AreEnds g h number from to
    pub is_fresh : IsFresh g h closed number from to

  -- the workers of connections with numbers from this one on
  abbrev pub AreWorkersOf : Option (List Connection) → ℕ → List (Worker S K C) → Type 0
  AreWorkersOf closed number [] = Unit {0}
  AreWorkersOf closed number (worker ∷ workers) = IsWorkerOf closed number worker × AreWorkersOf closed (number + 1) workers

-- what is known of workers is known when some of them have ended
abbrev pub AreSettled : {S K C : Type 0} → Source.Ghosts S → Sink.Ghosts K → Clock.Ghosts C → List (Worker S K C) → List (Worker S K C) → Type 0
AreSettled g h t old new = (lock : Lock) (site : Site) (clock : _) (before : List Event) (closed : Option (List Connection)) (number : ℕ)
    → AreWorkersOf g h t lock site clock before closed number old → AreWorkersOf g h t lock site clock before closed number new
