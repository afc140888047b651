-- The recorded streams of honest services.
use Rattle.std.specs.Prelude.{◌≡◌, ℕ, true, false, List, [], ◌∷◌, ◌++◌, Ok}
use Rattle.ps_rows.specs.declared.changes.Transaction.{Transaction}
use Rattle.ps_lines.specs.Bodies.{body_of}
use Rattle.ps_lines.specs.Reading.{line_of}
use Rattle.ps_lines.specs.Writing.{without_targets}
use Rattle.ps_definitions.specs.RuleSets.{RuleSet, AreRules}
use Rattle.ps_store.specs.declared.events.Event.{Event}
use Rattle.ps_store.specs.Courses.{course_of}
use Rattle.ps_store.specs.Histories.{has_deploy}
use Rattle.ps_store.specs.Laws.{HaveNumbers, Rises}
use Rattle.ps_store.specs.Ledgers.{ledger_of, IsLegal}
use Rattle.ps_session.specs.Sessions.{SessionState, begin}
use Rattle.ps_streams.specs.Runs.{Made, Turn, Climbs, AreToldIn, all_made}
use Rattle.ps_audit.specs.declared.verdicts.Verdict.{Verdict}
use Rattle.ps_audit.specs.declared.verdicts.Verdict.TheVariants.{Yes, No}
use Rattle.ps_audit.specs.Positions.{Case}
use Rattle.ps_audit.specs.Judging.{asks_afresh, IsVerdict}

-- a history of one set of rules, whose transactions are the first ones of those that a stream is judged by
pub record IsFed (case : Case) (rules : RuleSet) (history : List Event) (later : List Transaction) : Type 0 where
  pub definitions : case.definitions ≡ rules.definitions
  pub rules_are : AreRules rules
  pub numbers : HaveNumbers rules.definitions
  pub legal : IsLegal rules history
  pub one : has_deploy history ≡ false
  pub fed : case.transactions ≡ (ledger_of rules history).fed ++ later

-- the session of a client that asks for all
abbrev pub begun : SessionState
begun = begin (λ name. 0)

-- each line as it is read again
abbrev pub AreRecorded : List Made → List (List ℕ) → Type 0
AreRecorded [] [] = Unit {0}
AreRecorded [] (bytes ∷ lines) = ⊥
AreRecorded (m ∷ ms) [] = ⊥
AreRecorded (m ∷ ms) (bytes ∷ lines) = (line_of bytes ≡ Ok (without_targets m.line)) × AreRecorded ms lines

-- the lines are a front of those that a session makes for the asker over such a history, whatever happens between its turns
pub record IsHonestStream (case : Case) (rules : RuleSet) (lines : List (List ℕ)) : Type 0 where
  pub history : List Event
  pub later : List Transaction
  pub start : ℕ
  pub end : ℕ
  pub turns : List Turn
  pub front : List Made
  pub back : List Made
  pub is_fed : IsFed case rules history later
  pub climbs : Climbs start turns end
  pub told : AreToldIn (course_of rules history case.asker) begun turns
  pub made : all_made (course_of rules history case.asker) start begun turns ≡ front ++ back
  pub recorded : AreRecorded front lines

abbrev pub IsYes : Verdict → Type 0
IsYes (Yes completed) = Unit {0}
IsYes (No completed line kind) = ⊥

-- the verdict is Yes on such a stream of a client that asked for all; the request is the first line
abbrev pub PassesHonest : List (List ℕ) → Case → RuleSet → Verdict → Type 0
PassesHonest [] case rules verdict = Unit {0}
PassesHonest (request ∷ lines) case rules verdict = asks_afresh (body_of request) ≡ true → IsHonestStream case rules lines → IsYes verdict

-- so it is with each verdict
abbrev pub HonestStreamsPass : Type 0
HonestStreamsPass = (case : Case) (rules : RuleSet) (lines : List (List ℕ)) (verdict : Verdict) → Rises 0 case.transactions → IsVerdict case lines verdict
    → PassesHonest lines case rules verdict
