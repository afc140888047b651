-- What `serve` answers, and the cause of each answer.
use Rattle.std.specs.Prelude.{◌≡◌, ◌⊎◌, ℕ, ◌+◌, ◌-◌, ◌^◌, ◌<◌, ◌≤◌, true, false, List, [], ◌++◌, length, Contains, Option, Some, None, IfSome, IsSome, unwrap_or, Result, Ok, Err}
use mathlib.Core.List.{IsPrefix}
use Rattle.ps_data.specs.declared.ids.OpId.{OpId}
use Rattle.ps_io.specs.Contents.{Contents, Gains, GainsFront}
use Rattle.ps_io.specs.Counts.{Rose}
use Rattle.ps_connections.specs.declared.ended.Ended.{Ended}
use Rattle.ps_connections.specs.Taken.{HasTaken}
use Rattle.ps_doors.specs.Connections.{Connection}
use Rattle.ps_serve.specs.declared.sites.Site.{Site}
use Rattle.ps_store.specs.declared.events.Event.{Event}
use Rattle.ps_store.specs.declared.fixed.Fixed.{Fixed}
use Rattle.ps_store.specs.Histories.{has_deploy}
use Rattle.ps_store.specs.LedgerLaws.{fed_in}
use Rattle.ps_store.specs.Ledgers.{Ledger, ledger_of}
use Rattle.ps_store.specs.Limits.{usual_limits}
use Rattle.ps_store.specs.Originals.{Timed, timed, key_of, entries_at}
use Rattle.ps_store.specs.Totals.{totals_of}
use Rattle.ps_definitions.specs.RuleSets.{RuleSet}
use Rattle.ps_files.specs.declared.faults.Fault.{Fault}
use Rattle.ps_files.specs.declared.faults.Fault.TheVariants.{Usage, Rules, Change, PastLimit, TooManyBuckets, Claims, Keys, TooLong, CannotRead, CannotWrite, Script, Memory}
use Rattle.ps_files.specs.declared.faults.Limit.{Limit}
use Rattle.ps_files.specs.declared.faults.Limit.TheVariants.{LineBytes, Entries, Operations}
use Rattle.ps_files.specs.ChangeFiles.{first_passed}
use Rattle.ps_files.specs.ReadingChanges.{usual}
use Rattle.ps_serve_words.specs.declared.words.ServeWords.{ServeWords}
use Rattle.ps_serve_inputs.specs.declared.faults.ServeFault.{ServeFault}
use Rattle.ps_serve_inputs.specs.declared.faults.ServeFault.TheVariants.{Plain, ConnectionFailed}
use Rattle.ps_serve_inputs.specs.declared.inputs.Inputs.{Inputs}
use Rattle.ps_serve_inputs.specs.Inputs.{AreInputs, StopsInputs}
use Rattle.ps_workers.specs.declared.shared.Terms.{Terms}
use Rattle.ps_workers.specs.declared.stages.NextRules.{NextRules}
use Rattle.ps_workers.specs.Terms.{IsStoodFor}
use Rattle.ps_workers.specs.Work.{IsStoreDrained, IsWideFor, IsFullFor, NoneIsDue}
use Rattle.ps_serving.specs.Openings.{opening}
use Rattle.ps_serving.specs.Printing.{listening_line, totals_line}
use Rattle.ps_serving.specs.Running.{HaveAnswers}
use Rattle.ps_serving.specs.Totals.{whole_totals}

-- ---- what is seen of the outside

-- how often files have failed
pub record FilesAt : Type 0 where
  pub held : Option Contents
  pub faults : ℕ

pub record DoorsAt : Type 0 where
  pub opened : ℕ
  pub coming : Option (List (List ℕ))
  pub closed : Option (List Connection)
  pub faults : ℕ

pub record SinkAt : Type 0 where
  pub taken : Option (List ℕ)
  pub faults : ℕ

-- ---- a store that was fed

-- how many connections are taken at most
abbrev pub most_of : ServeWords → ℕ
most_of words = unwrap_or words.connections (2 ^ 64 - 1)

-- why a change is not written, or not taken by the generation that is being built
abbrev pub IsPast : Fixed → Option NextRules → Ledger → Limit → Type 0
IsPast fixed next l (LineBytes count) = ⊥
IsPast fixed next l (Entries count) = IsWideFor fixed next l count
IsPast fixed next l (Operations last) = (id : OpId) × (id.0 ≡ last) × IsFullFor fixed next l id

-- the lock's last history, which begins so; and one of its beginnings, which the writer saw last. Where no connection was handed out, nothing more was fed
pub record HasRun (terms : Terms) (start : List Event) (doors doors' : DoorsAt) : Type 0 where
  pub history : List Event
  pub stood : IsStoodFor terms history
  pub begins : IsPrefix start history
  pub seen : List Event
  pub later : IsPrefix start seen
  pub earlier : IsPrefix seen history
  pub alone : doors'.opened ≡ doors.opened → fed_in history ≡ fed_in start

-- the next change was refused so, where the writer saw the history last
pub record RefusesChange (terms : Terms) (next : Option NextRules) (start : List Event) (doors doors' : DoorsAt) (limit : Limit) : Type 0 where
  pub run : HasRun terms start doors doors'
  pub past : IsPast terms.fixed next (ledger_of terms.fixed.rules run.seen) limit

-- the writer drained the store
pub record HasDrained (terms : Terms) (start : List Event) (doors doors' : DoorsAt) : Type 0 where
  pub run : HasRun terms start doors doors'
  pub drained : IsStoreDrained (ledger_of terms.fixed.rules run.seen)

-- no further connection is to come, or as many as are wanted were handed out
abbrev pub HaveAllCome : ℕ → DoorsAt → DoorsAt → Type 0
HaveAllCome most doors doors' = IfSome doors'.coming (λ left. left ≡ []) ⊎ (doors'.opened ≡ doors.opened + most)

-- all connections were served, at most so many; the writer drained the store, whose next rules, if any, came where they were due; and the totals of the last
-- history were printed
pub record ServesAll (terms : Terms) (next : Option NextRules) (site : Site) (may_give : ℕ → Type 0) (start : List Event) (most : ℕ) (doors doors' : DoorsAt) (out out' : SinkAt) : Type 0 where
  pub run : HasRun terms start doors doors'
  pub drained : IsStoreDrained (ledger_of terms.fixed.rules run.seen)
  pub due : NoneIsDue terms.fixed next run.seen
  pub ended : Ended
  pub taken : HasTaken most doors.opened doors'.opened doors.coming doors'.coming doors.faults doors'.faults ended.stop ended.connections
  pub all : HaveAllCome most doors doors'
  pub quiet : doors'.faults ≡ doors.faults
  pub room : ended.out_of_memory ≡ false
  pub answers : HaveAnswers terms.fixed site may_give (length start) run.history doors.opened doors.closed doors'.closed ended
  pub printed : Gains out.taken out'.taken (totals_line (totals_of (ledger_of terms.fixed.rules run.history)))

-- serving a store that was fed
abbrev pub ServesFed : Terms → Option NextRules → Site → (ℕ → Type 0) → List Event → ℕ → DoorsAt → DoorsAt → SinkAt → SinkAt → Result (Unit {0}) ServeFault → Type 0
ServesFed terms next site may_give start most doors doors' out out' (Ok done) = ServesAll terms next site may_give start most doors doors' out out'
ServesFed terms next site may_give start most doors doors' out out' (Err ConnectionFailed) = Rose doors.faults doors'.faults × HasDrained terms start doors doors'
ServesFed terms next site may_give start most doors doors' out out' (Err (Plain Usage)) = ⊥
ServesFed terms next site may_give start most doors doors' out out' (Err (Plain (Rules which line column why))) = ⊥
ServesFed terms next site may_give start most doors doors' out out' (Err (Plain (Change line why))) = ⊥
ServesFed terms next site may_give start most doors doors' out out' (Err (Plain (PastLimit limit))) = RefusesChange terms next start doors doors' limit
ServesFed terms next site may_give start most doors doors' out out' (Err (Plain (TooManyBuckets count))) = ⊥
ServesFed terms next site may_give start most doors doors' out out' (Err (Plain Claims)) = ⊥
ServesFed terms next site may_give start most doors doors' out out' (Err (Plain Keys)) = ⊥
ServesFed terms next site may_give start most doors doors' out out' (Err (Plain (TooLong seen))) = ⊥
ServesFed terms next site may_give start most doors doors' out out' (Err (Plain (CannotRead name))) = ⊥
ServesFed terms next site may_give start most doors doors' out out' (Err (Plain CannotWrite)) = Rose out.faults out'.faults × HasDrained terms start doors doors'
ServesFed terms next site may_give start most doors doors' out out' (Err (Plain (Script line why))) = ⊥
ServesFed terms next site may_give start most doors doors' out out' (Err (Plain Memory)) = Unit {0}

-- ---- listening

-- it listens, and where was printed; or why not
abbrev pub Listens : List ℕ → SinkAt → SinkAt → ℕ → ℕ → Result (Unit {0}) ServeFault → Type 0
Listens address out out' before now (Ok done) = Gains out.taken out'.taken (listening_line address) × (now ≡ before)
Listens address out out' before now (Err ConnectionFailed) = Rose before now × (out'.taken ≡ out.taken)
Listens address out out' before now (Err (Plain Usage)) = ⊥
Listens address out out' before now (Err (Plain (Rules which line column why))) = ⊥
Listens address out out' before now (Err (Plain (Change line why))) = ⊥
Listens address out out' before now (Err (Plain (PastLimit limit))) = ⊥
Listens address out out' before now (Err (Plain (TooManyBuckets count))) = ⊥
Listens address out out' before now (Err (Plain Claims)) = ⊥
Listens address out out' before now (Err (Plain Keys)) = ⊥
Listens address out out' before now (Err (Plain (TooLong seen))) = ⊥
Listens address out out' before now (Err (Plain (CannotRead name))) = ⊥
Listens address out out' before now (Err (Plain CannotWrite)) = GainsFront out.taken out'.taken (listening_line address) × Rose out.faults out'.faults
Listens address out out' before now (Err (Plain (Script line why))) = ⊥
Listens address out out' before now (Err (Plain Memory)) = Unit {0}

-- ---- the whole command

-- the rules that were read, under the usual limits, and those that may come
abbrev pub terms_by : Inputs → Terms
terms_by inputs = record { fixed = usual inputs.rules; next = inputs.next }

-- rules, if there are any, that may come once so many transactions are committed
abbrev pub rules_after : ℕ → Option RuleSet → Option NextRules
rules_after after None = None
rules_after after (Some rules) = Some (record { rules = rules; after = after })

abbrev pub next_by : ServeWords → Inputs → Option NextRules
next_by words inputs = rules_after words.next_after inputs.next

abbrev pub site_by : ServeWords → Inputs → Site
site_by words inputs = record { keys = inputs.keys; until_drained = words.until_drained }

abbrev pub opening_by : ServeWords → Inputs → List Event
opening_by words inputs = opening words.until_drained inputs.transactions.items

-- the limit that the first change of the change file passes which passes one, where each change is written in its turn
abbrev pub limit_passed_by : Inputs → Option Limit
limit_passed_by inputs = first_passed inputs.rules.definitions [] (timed inputs.transactions.items)

-- a row of the change file has more entries than one may have, by the rules or by the next ones
pub record HasWideRow (inputs : Inputs) : Type 0 where
  pub rules : RuleSet
  pub of_either : (rules ≡ inputs.rules) ⊎ (inputs.next ≡ Some rules)
  pub change : Timed
  pub of_file : Contains (timed inputs.transactions.items) change
  pub wide : usual_limits.entries < length (entries_at rules.definitions (key_of change) change.change.row)

-- what is told as the limit is one more than a row may have, and a row has more; or ids did not suffice
abbrev pub PassesEither : Inputs → Limit → Type 0
PassesEither inputs (LineBytes count) = ⊥
PassesEither inputs (Entries count) = (count ≡ usual_limits.entries + 1) × HasWideRow inputs
PassesEither inputs (Operations last) = Unit {0}

-- the change file alone is fed: the feed was closed behind it, or there was no connection that could feed more
abbrev pub IsFedAlone : ServeWords → DoorsAt → DoorsAt → Type 0
IsFedAlone said doors doors' = (said.until_drained ≡ true) ⊎ (doors'.opened ≡ doors.opened)

module _ (may_give : ℕ → Type 0) (said : ServeWords) (files files' : FilesAt) (doors doors' : DoorsAt) (out out' : SinkAt) where
  -- there is one history, of the rules of the rules file under the usual limits, to which no new rules came but those of the file of the next ones, and which the
  -- store stood for at the end. It begins with the Feeds of the change file, and with a Close behind them in drained mode. As many connections were closed as were
  -- handed out, each answered over this history from there on, under the keys of the key file, and none ended for out of memory; no further one is to come, or as many
  -- as were wanted were handed out. The address and this history's totals were printed. Without next rules no change of the change file passes a limit, and in drained
  -- mode, and where no connection was handed out, these totals are those of any history that feeds the change file alone and writes all of it, with no new rules. With
  -- next rules these came, where the change file has as many transactions as they are to wait for
  pub record IsServed : Type 0 where
    pub inputs : Inputs
    pub read : AreInputs files.held said inputs
    pub history : List Event
    pub stood : IsStoodFor (terms_by inputs) history
    pub begins : IsPrefix (opening_by said inputs) history
    pub ended : Ended
    pub taken : HasTaken (most_of said) doors.opened doors'.opened doors.coming doors'.coming doors.faults doors'.faults ended.stop ended.connections
    pub all : HaveAllCome (most_of said) doors doors'
    pub quiet : doors'.faults ≡ doors.faults
    pub room : ended.out_of_memory ≡ false
    pub answers : HaveAnswers (usual inputs.rules) (site_by said inputs) may_give (length (opening_by said inputs)) history doors.opened doors.closed doors'.closed ended
    pub printed : Gains out.taken out'.taken (listening_line said.listen ++ totals_line (totals_of (ledger_of inputs.rules history)))
    pub whole : inputs.next ≡ None → IsFedAlone said doors doors' → totals_of (ledger_of inputs.rules history) ≡ whole_totals inputs.rules inputs.transactions.items
    pub fits : inputs.next ≡ None → limit_passed_by inputs ≡ None
    pub renewed : IsSome inputs.next → said.next_after ≤ length inputs.transactions.items → has_deploy history ≡ true

  -- a change of the change file, or of an upload, was refused so. In drained mode, and where no connection was handed out: without next rules it is the first one of
  -- the change file that passes a limit; and whatever rules there are, a row of the change file has more entries than one may have by one of them, or ids did not suffice
  pub record IsRefusedLate (limit : Limit) : Type 0 where
    pub inputs : Inputs
    pub read : AreInputs files.held said inputs
    pub refuses : RefusesChange (terms_by inputs) (next_by said inputs) (opening_by said inputs) doors doors' limit
    pub passes : inputs.next ≡ None → IsFedAlone said doors doors' → limit_passed_by inputs ≡ Some limit
    pub either : IsFedAlone said doors doors' → PassesEither inputs limit

  -- it failed before the threads ran: no connection was handed out, and of the line with the address a front was printed
  pub record FailsFirst : Type 0 where
    pub opened : doors'.opened ≡ doors.opened
    pub printed : GainsFront out.taken out'.taken (listening_line said.listen)

  -- it failed once the writer had drained the store; without next rules no change of the change file passes a limit
  pub record FailsLater : Type 0 where
    pub inputs : Inputs
    pub read : AreInputs files.held said inputs
    pub fits : inputs.next ≡ None → limit_passed_by inputs ≡ None

  abbrev pub Fails : Type 0
  Fails = FailsFirst ⊎ FailsLater

  abbrev pub IsStopped : Fault → Type 0
  IsStopped fault = StopsInputs files.held said files.faults files'.faults fault

  -- the command was served, or this is why not
  abbrev pub ServesSo : Result (Unit {0}) ServeFault → Type 0
  ServesSo (Ok done) = IsServed
  ServesSo (Err ConnectionFailed) = Rose doors.faults doors'.faults × Fails
  ServesSo (Err (Plain Usage)) = ⊥
  ServesSo (Err (Plain (Rules which line column why))) = IsStopped (Rules which line column why)
  ServesSo (Err (Plain (Change line why))) = IsStopped (Change line why)
  ServesSo (Err (Plain (PastLimit limit))) = IsStopped (PastLimit limit) ⊎ IsRefusedLate limit
  ServesSo (Err (Plain (TooManyBuckets count))) = ⊥
  ServesSo (Err (Plain Claims)) = ⊥
  ServesSo (Err (Plain Keys)) = IsStopped Keys
  ServesSo (Err (Plain (TooLong seen))) = IsStopped (TooLong seen)
  ServesSo (Err (Plain (CannotRead name))) = IsStopped (CannotRead name)
  ServesSo (Err (Plain CannotWrite)) = Rose out.faults out'.faults × Fails
  ServesSo (Err (Plain (Script line why))) = ⊥
  ServesSo (Err (Plain Memory)) = Unit {0}
