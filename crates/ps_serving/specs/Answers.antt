-- The statuses of `serve`, each with its cause.
use Rattle.std.specs.Prelude.{◌≡◌, ◌⊎◌, ℕ, ◌≤◌, List, Option, Result, Ok, Err}
use Rattle.std.specs.Borrow.{Bor}
use Rattle.ps_io.specs.Counts.{Rose}
use Rattle.ps_files.specs.declared.faults.Fault.{Fault}
use Rattle.ps_files.specs.declared.faults.Fault.TheVariants.{Usage, Rules, Change, PastLimit, TooManyBuckets, Claims, Keys, TooLong, CannotRead, CannotWrite, Script, Memory}
use Rattle.ps_files.specs.declared.faults.Limit.{Limit}
use Rattle.ps_files.specs.declared.faults.LineFault.{LineFault}
use Rattle.ps_files.specs.declared.faults.RulesFile.{RulesFile}
use Rattle.ps_files.specs.declared.faults.RulesCause.{RulesCause}
use Rattle.ps_files.specs.Loading.{unread_name, JoinsThese}
use Rattle.ps_files.specs.Saying.{Told}
use Rattle.ps_serve_words.specs.declared.faults.WordsFault.{WordsFault}
use Rattle.ps_serve_words.specs.declared.faults.WordsFault.TheVariants as words
use Rattle.ps_serve_words.specs.declared.words.ServeWords.{ServeWords}
use Rattle.ps_serve_words.specs.Words.{AreRefused, AreTaken}
use Rattle.ps_serve_inputs.specs.declared.faults.ServeFault.{ServeFault}
use Rattle.ps_serve_inputs.specs.declared.faults.ServeFault.TheVariants.{Plain, ConnectionFailed}
use Rattle.ps_serve_inputs.specs.Inputs.{StopsInputs}
use Rattle.ps_serve_inputs.specs.ServeFaults.{SaysServeFault}
use Rattle.ps_serving.specs.Serving.{FilesAt, DoorsAt, SinkAt, IsServed, IsRefusedLate, Fails}

-- the name that could not be read joined those that could not be, and else none did
abbrev pub MissesFault : Option (List (List ℕ)) → Option (List (List ℕ)) → ServeFault → Type 0
MissesFault before after (Plain fault) = JoinsThese before after (unread_name fault)
MissesFault before after ConnectionFailed = after ≡ before

abbrev pub MissesServe : Option (List (List ℕ)) → Option (List (List ℕ)) → Result (Unit {0}) ServeFault → Type 0
MissesServe before after (Ok done) = after ≡ before
MissesServe before after (Err fault) = MissesFault before after fault

-- the fault of words that are not taken
abbrev pub words_fault_of : WordsFault → ServeFault
words_fault_of words.Refused = Plain Usage
words_fault_of words.Memory = Plain Memory

module _ (may_give : ℕ → Type 0) (words : List (List ℕ)) (files files' : FilesAt) (doors doors' : DoorsAt) (out out' : SinkAt) where
  -- the words are taken, and a file that they name is the first that is not read, and that is why
  pub record Stops (fault : Fault) : Type 0 where
    pub said : ServeWords
    pub taken : AreTaken words said
    pub stops : StopsInputs files.held said files.faults files'.faults fault

  -- the words are taken, all files are read, and a change was refused once it was fed
  pub record StopsLate (limit : Limit) : Type 0 where
    pub said : ServeWords
    pub taken : AreTaken words said
    pub refused : IsRefusedLate may_give said files files' doors doors' out out' limit

  -- the words are taken, and the doors or the output failed before the threads ran, or once the writer had drained the store
  pub record FailsOutside : Type 0 where
    pub said : ServeWords
    pub taken : AreTaken words said
    pub fails : Fails may_give said files files' doors doors' out out'

  -- the words are taken, and all of it was done
  pub record Serves : Type 0 where
    pub said : ServeWords
    pub taken : AreTaken words said
    pub served : IsServed may_give said files files' doors doors' out out'

  -- the cause of a fault
  abbrev pub IsCause : ServeFault → Type 0
  IsCause ConnectionFailed = Rose doors.faults doors'.faults × FailsOutside
  IsCause (Plain Usage) = AreRefused words
  IsCause (Plain (Rules which line column why)) = Stops (Rules which line column why)
  IsCause (Plain (Change line why)) = Stops (Change line why)
  IsCause (Plain (PastLimit limit)) = Stops (PastLimit limit) ⊎ StopsLate limit
  IsCause (Plain (TooManyBuckets count)) = ⊥
  IsCause (Plain Claims) = ⊥
  IsCause (Plain Keys) = Stops Keys
  IsCause (Plain (TooLong seen)) = Stops (TooLong seen)
  IsCause (Plain (CannotRead name)) = Stops (CannotRead name)
  IsCause (Plain CannotWrite) = Rose out.faults out'.faults × FailsOutside
  IsCause (Plain (Script line why)) = ⊥
  IsCause (Plain Memory) = Unit {0}

  -- the status, by its cause; status 8 is that memory ran out, and has none
  pub record AnswersServe (status : ℕ) : Type 0 where
    pub done : status ≡ 0 → Serves
    pub usage : status ≡ 1 → AreRefused words
    pub unknown : AreRefused words → (status ≡ 1) ⊎ (status ≡ 8)
    pub rules : status ≡ 2 → (which : RulesFile) × (line column : ℕ) × (why : RulesCause) × Stops (Rules which line column why)
    pub changes : status ≡ 3 → (line : ℕ) × (why : LineFault) × Stops (Change line why)
    pub keys : status ≡ 4 → Stops Keys
    pub limits : status ≡ 5 → ((seen : ℕ) × Stops (TooLong seen)) ⊎ ((limit : Limit) × (Stops (PastLimit limit) ⊎ StopsLate limit))
    pub unread : status ≡ 6 → (name : Bor (List ℕ)) × Stops (CannotRead name)
    pub unwritten : status ≡ 7 → Rose out.faults out'.faults × FailsOutside
    pub connections : status ≡ 10 → Rose doors.faults doors'.faults × FailsOutside
    pub known : (status ≤ 8) ⊎ (status ≡ 10)

  -- what is said is the line of a fault that has its cause and that status; it names the file that could not be read
  pub record SaysWhy (missed missed' : Option (List (List ℕ))) (e : Told) (status : ℕ) : Type 0 where
    pub fault : ServeFault
    pub cause : IsCause fault
    pub names : MissesFault missed missed' fault
    pub says : SaysServeFault e fault status
