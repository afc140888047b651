-- The statuses of `serve`, fault by fault.
use Rattle.std.proofs.Common.{◌≡◌, ◌⊎◌, ℕ, ◌≤◌, List, Err, Bor, inl, inr, refl, arith}
use Rattle.ps_io.specs.Counts.{Rose}
use Rattle.ps_files.specs.declared.faults.Fault.TheVariants.{Usage, Rules, Change, PastLimit, TooManyBuckets, Claims, Keys, TooLong, CannotRead, CannotWrite, Script, Memory}
use Rattle.ps_files.specs.declared.faults.Limit.{Limit}
use Rattle.ps_files.specs.declared.faults.LineFault.{LineFault}
use Rattle.ps_files.specs.declared.faults.RulesFile.{RulesFile}
use Rattle.ps_files.specs.declared.faults.RulesCause.{RulesCause}
use Rattle.ps_serve_words.specs.declared.words.ServeWords.{ServeWords}
use Rattle.ps_serve_words.specs.Words.{AreRefused, AreTaken}
use Rattle.ps_serve_inputs.specs.declared.faults.ServeFault.{ServeFault}
use Rattle.ps_serve_inputs.specs.declared.faults.ServeFault.TheVariants.{Plain, ConnectionFailed}
use Rattle.ps_serve_inputs.specs.ServeFaults.{serve_status}
use Rattle.ps_serving.specs.Answers.{AnswersServe, FailsOutside, IsCause, Serves, Stops, StopsLate}
use Rattle.ps_serving.specs.Serving.{FilesAt, DoorsAt, SinkAt, ServesSo}

module _ (may_give : ℕ → Type 0) (words : List (List ℕ)) (files files' : FilesAt) (doors doors' : DoorsAt) (out out' : SinkAt) where
  abbrev Causes : ServeFault → Type 0
  Causes fault = IsCause may_give words files files' doors doors' out out' fault

  is_usage : (fault : ServeFault) → Causes fault → serve_status fault ≡ 1 → AreRefused words
  is_usage ConnectionFailed h e = absurd (omega arith)
  is_usage (Plain Usage) h e = h
  is_usage (Plain (Rules which line column why)) h e = absurd (omega arith)
  is_usage (Plain (Change line why)) h e = absurd (omega arith)
  is_usage (Plain (PastLimit limit)) h e = absurd (omega arith)
  is_usage (Plain (TooManyBuckets count)) h e = absurd h
  is_usage (Plain Claims) h e = absurd h
  is_usage (Plain Keys) h e = absurd (omega arith)
  is_usage (Plain (TooLong seen)) h e = absurd (omega arith)
  is_usage (Plain (CannotRead name)) h e = absurd (omega arith)
  is_usage (Plain CannotWrite) h e = absurd (omega arith)
  is_usage (Plain (Script line why)) h e = absurd h
  is_usage (Plain Memory) h e = absurd (omega arith)

  is_rules : (fault : ServeFault) → Causes fault → serve_status fault ≡ 2 → (which : RulesFile) × (line column : ℕ) × (why : RulesCause) × Stops may_give words files files' doors doors' out out' (Rules which line column why)
  is_rules ConnectionFailed h e = absurd (omega arith)
  is_rules (Plain Usage) h e = absurd (omega arith)
  is_rules (Plain (Rules which line column why)) h e = (which, line, column, why, h)
  is_rules (Plain (Change line why)) h e = absurd (omega arith)
  is_rules (Plain (PastLimit limit)) h e = absurd (omega arith)
  is_rules (Plain (TooManyBuckets count)) h e = absurd h
  is_rules (Plain Claims) h e = absurd h
  is_rules (Plain Keys) h e = absurd (omega arith)
  is_rules (Plain (TooLong seen)) h e = absurd (omega arith)
  is_rules (Plain (CannotRead name)) h e = absurd (omega arith)
  is_rules (Plain CannotWrite) h e = absurd (omega arith)
  is_rules (Plain (Script line why)) h e = absurd h
  is_rules (Plain Memory) h e = absurd (omega arith)

  is_change : (fault : ServeFault) → Causes fault → serve_status fault ≡ 3 → (line : ℕ) × (why : LineFault) × Stops may_give words files files' doors doors' out out' (Change line why)
  is_change ConnectionFailed h e = absurd (omega arith)
  is_change (Plain Usage) h e = absurd (omega arith)
  is_change (Plain (Rules which line column why)) h e = absurd (omega arith)
  is_change (Plain (Change line why)) h e = (line, why, h)
  is_change (Plain (PastLimit limit)) h e = absurd (omega arith)
  is_change (Plain (TooManyBuckets count)) h e = absurd h
  is_change (Plain Claims) h e = absurd h
  is_change (Plain Keys) h e = absurd (omega arith)
  is_change (Plain (TooLong seen)) h e = absurd (omega arith)
  is_change (Plain (CannotRead name)) h e = absurd (omega arith)
  is_change (Plain CannotWrite) h e = absurd (omega arith)
  is_change (Plain (Script line why)) h e = absurd h
  is_change (Plain Memory) h e = absurd (omega arith)

  is_keys : (fault : ServeFault) → Causes fault → serve_status fault ≡ 4 → Stops may_give words files files' doors doors' out out' Keys
  is_keys ConnectionFailed h e = absurd (omega arith)
  is_keys (Plain Usage) h e = absurd (omega arith)
  is_keys (Plain (Rules which line column why)) h e = absurd (omega arith)
  is_keys (Plain (Change line why)) h e = absurd (omega arith)
  is_keys (Plain (PastLimit limit)) h e = absurd (omega arith)
  is_keys (Plain (TooManyBuckets count)) h e = absurd h
  is_keys (Plain Claims) h e = absurd h
  is_keys (Plain Keys) h e = h
  is_keys (Plain (TooLong seen)) h e = absurd (omega arith)
  is_keys (Plain (CannotRead name)) h e = absurd (omega arith)
  is_keys (Plain CannotWrite) h e = absurd (omega arith)
  is_keys (Plain (Script line why)) h e = absurd h
  is_keys (Plain Memory) h e = absurd (omega arith)

  is_limit : (fault : ServeFault) → Causes fault → serve_status fault ≡ 5 → ((seen : ℕ) × Stops may_give words files files' doors doors' out out' (TooLong seen)) ⊎ ((limit : Limit) × (Stops may_give words files files' doors doors' out out' (PastLimit limit) ⊎ StopsLate may_give words files files' doors doors' out out' limit))
  is_limit ConnectionFailed h e = absurd (omega arith)
  is_limit (Plain Usage) h e = absurd (omega arith)
  is_limit (Plain (Rules which line column why)) h e = absurd (omega arith)
  is_limit (Plain (Change line why)) h e = absurd (omega arith)
  is_limit (Plain (PastLimit limit)) h e = inr (limit, h)
  is_limit (Plain (TooManyBuckets count)) h e = absurd h
  is_limit (Plain Claims) h e = absurd h
  is_limit (Plain Keys) h e = absurd (omega arith)
  is_limit (Plain (TooLong seen)) h e = inl (seen, h)
  is_limit (Plain (CannotRead name)) h e = absurd (omega arith)
  is_limit (Plain CannotWrite) h e = absurd (omega arith)
  is_limit (Plain (Script line why)) h e = absurd h
  is_limit (Plain Memory) h e = absurd (omega arith)

  is_unread : (fault : ServeFault) → Causes fault → serve_status fault ≡ 6 → (name : Bor (List ℕ)) × Stops may_give words files files' doors doors' out out' (CannotRead name)
  is_unread ConnectionFailed h e = absurd (omega arith)
  is_unread (Plain Usage) h e = absurd (omega arith)
  is_unread (Plain (Rules which line column why)) h e = absurd (omega arith)
  is_unread (Plain (Change line why)) h e = absurd (omega arith)
  is_unread (Plain (PastLimit limit)) h e = absurd (omega arith)
  is_unread (Plain (TooManyBuckets count)) h e = absurd h
  is_unread (Plain Claims) h e = absurd h
  is_unread (Plain Keys) h e = absurd (omega arith)
  is_unread (Plain (TooLong seen)) h e = absurd (omega arith)
  is_unread (Plain (CannotRead name)) h e = (name, h)
  is_unread (Plain CannotWrite) h e = absurd (omega arith)
  is_unread (Plain (Script line why)) h e = absurd h
  is_unread (Plain Memory) h e = absurd (omega arith)

  is_unwritten : (fault : ServeFault) → Causes fault → serve_status fault ≡ 7 → Rose out.faults out'.faults × FailsOutside may_give words files files' doors doors' out out'
  is_unwritten ConnectionFailed h e = absurd (omega arith)
  is_unwritten (Plain Usage) h e = absurd (omega arith)
  is_unwritten (Plain (Rules which line column why)) h e = absurd (omega arith)
  is_unwritten (Plain (Change line why)) h e = absurd (omega arith)
  is_unwritten (Plain (PastLimit limit)) h e = absurd (omega arith)
  is_unwritten (Plain (TooManyBuckets count)) h e = absurd h
  is_unwritten (Plain Claims) h e = absurd h
  is_unwritten (Plain Keys) h e = absurd (omega arith)
  is_unwritten (Plain (TooLong seen)) h e = absurd (omega arith)
  is_unwritten (Plain (CannotRead name)) h e = absurd (omega arith)
  is_unwritten (Plain CannotWrite) h e = h
  is_unwritten (Plain (Script line why)) h e = absurd h
  is_unwritten (Plain Memory) h e = absurd (omega arith)

  is_connection : (fault : ServeFault) → Causes fault → serve_status fault ≡ 10 → Rose doors.faults doors'.faults × FailsOutside may_give words files files' doors doors' out out'
  is_connection ConnectionFailed h e = h
  is_connection (Plain Usage) h e = absurd (omega arith)
  is_connection (Plain (Rules which line column why)) h e = absurd (omega arith)
  is_connection (Plain (Change line why)) h e = absurd (omega arith)
  is_connection (Plain (PastLimit limit)) h e = absurd (omega arith)
  is_connection (Plain (TooManyBuckets count)) h e = absurd h
  is_connection (Plain Claims) h e = absurd h
  is_connection (Plain Keys) h e = absurd (omega arith)
  is_connection (Plain (TooLong seen)) h e = absurd (omega arith)
  is_connection (Plain (CannotRead name)) h e = absurd (omega arith)
  is_connection (Plain CannotWrite) h e = absurd (omega arith)
  is_connection (Plain (Script line why)) h e = absurd h
  is_connection (Plain Memory) h e = absurd (omega arith)

  is_known : (fault : ServeFault) → Causes fault → (serve_status fault ≤ 8) ⊎ (serve_status fault ≡ 10)
  is_known ConnectionFailed h = inr refl
  is_known (Plain Usage) h = inl (omega arith)
  is_known (Plain (Rules which line column why)) h = inl (omega arith)
  is_known (Plain (Change line why)) h = inl (omega arith)
  is_known (Plain (PastLimit limit)) h = inl (omega arith)
  is_known (Plain (TooManyBuckets count)) h = absurd h
  is_known (Plain Claims) h = absurd h
  is_known (Plain Keys) h = inl (omega arith)
  is_known (Plain (TooLong seen)) h = inl (omega arith)
  is_known (Plain (CannotRead name)) h = inl (omega arith)
  is_known (Plain CannotWrite) h = inl (omega arith)
  is_known (Plain (Script line why)) h = absurd h
  is_known (Plain Memory) h = inl (omega arith)

  is_no_zero : (fault : ServeFault) → serve_status fault ≡ 0 → ⊥
  is_no_zero ConnectionFailed e = omega arith
  is_no_zero (Plain Usage) e = omega arith
  is_no_zero (Plain (Rules which line column why)) e = omega arith
  is_no_zero (Plain (Change line why)) e = omega arith
  is_no_zero (Plain (PastLimit limit)) e = omega arith
  is_no_zero (Plain (TooManyBuckets count)) e = omega arith
  is_no_zero (Plain Claims) e = omega arith
  is_no_zero (Plain Keys) e = omega arith
  is_no_zero (Plain (TooLong seen)) e = omega arith
  is_no_zero (Plain (CannotRead name)) e = omega arith
  is_no_zero (Plain CannotWrite) e = omega arith
  is_no_zero (Plain (Script line why)) e = omega arith
  is_no_zero (Plain Memory) e = omega arith

  -- a fault that has its cause answers its status
  pub answers_fault : (fault : ServeFault) → Causes fault → (AreRefused words → (serve_status fault ≡ 1) ⊎ (serve_status fault ≡ 8))
      → AnswersServe may_give words files files' doors doors' out out' (serve_status fault)
  answers_fault fault h unknown = record {
    done = λ e. absurd (is_no_zero fault e);
    usage = is_usage fault h;
    unknown = unknown;
    rules = is_rules fault h;
    changes = is_change fault h;
    keys = is_keys fault h;
    limits = is_limit fault h;
    unread = is_unread fault h;
    unwritten = is_unwritten fault h;
    connections = is_connection fault h;
    known = is_known fault h;
  }

  -- all was done
  pub answers_done : Serves may_give words files files' doors doors' out out' → AnswersServe may_give words files files' doors doors' out out' 0
  answers_done served = record {
    done = λ e. served;
    usage = λ e. absurd (omega arith);
    unknown = λ refused. absurd (refused served.taken.free);
    rules = λ e. absurd (omega arith);
    changes = λ e. absurd (omega arith);
    keys = λ e. absurd (omega arith);
    limits = λ e. absurd (omega arith);
    unread = λ e. absurd (omega arith);
    unwritten = λ e. absurd (omega arith);
    connections = λ e. absurd (omega arith);
    known = inl (omega arith);
  }

  -- what came of words that are taken is the cause of its fault
  pub caused : (said : ServeWords) → AreTaken words said → (fault : ServeFault) → ServesSo may_give said files files' doors doors' out out' (Err fault) → Causes fault
  caused said taken ConnectionFailed h = (h.0, record { said = said; taken = taken; fails = h.1 })
  caused said taken (Plain Usage) h = absurd h
  caused said taken (Plain (Rules which line column why)) h = record { said = said; taken = taken; stops = h }
  caused said taken (Plain (Change line why)) h = record { said = said; taken = taken; stops = h }
  caused said taken (Plain (PastLimit limit)) h = elim h [ inl s ↦ inl (record { said = said; taken = taken; stops = s }) | inr r ↦ inr (record { said = said; taken = taken; refused = r }) ]
  caused said taken (Plain (TooManyBuckets count)) h = absurd h
  caused said taken (Plain Claims) h = absurd h
  caused said taken (Plain Keys) h = record { said = said; taken = taken; stops = h }
  caused said taken (Plain (TooLong seen)) h = record { said = said; taken = taken; stops = h }
  caused said taken (Plain (CannotRead name)) h = record { said = said; taken = taken; stops = h }
  caused said taken (Plain CannotWrite) h = (h.0, record { said = said; taken = taken; fails = h.1 })
  caused said taken (Plain (Script line why)) h = absurd h
  caused said taken (Plain Memory) h = h
