-- The turns of a session at the end of a history.
use Rattle.std.proofs.Common.{◌≡◌, ℕ, refl, sym, subst, length, arith}
use Rattle.ps_queries.specs.declared.askers.Asker.{Asker}
use Rattle.ps_store.specs.declared.stores.Store.{Store}
use Rattle.ps_store.specs.Courses.{course_of}
use Rattle.ps_session.specs.declared.phases.Phase.{Phase}
use Rattle.ps_session.specs.declared.phases.Phase.TheVariants.{Start, Download, Void, Done}
use Rattle.ps_session.specs.Sessions.{SessionState}
use Rattle.ps_streams.specs.declared.outcomes.TurnOutcome.{TurnOutcome}
use Rattle.ps_streams.specs.Runs.{at_after}
use Rattle.ps_streams.specs.Ties.{HasTaken}
use Rattle.ps_streams.specs.Turning.{IsTurn, IsUnderWay}
use Rattle.service_cases.specs.Serving.{IsOver}

at_end : (phase : Phase) (n : ℕ) → at_after phase n n ≡ n
at_end Start n = refl
at_end Download n = refl
at_end Void n = refl
at_end Done n = refl

module _ (store : Store) (asker : Asker) (session : SessionState) (over : IsOver store asker session) where
  abbrev n : ℕ
  n = length over.history

  pub way : IsUnderWay (course_of over.fixed.rules over.history asker) n n session
  way = record { taken = over.taken; late = omega arith }

  -- a turn leaves a session that is over the store
  pub still_over : (now : SessionState) (outcome : TurnOutcome) → IsTurn over.fixed over.history asker n session now outcome → IsOver store asker now
  still_over now outcome turn = record {
    fixed = over.fixed;
    history = over.history;
    serves = over.serves;
    taken = subst (λ (at : ℕ). HasTaken (course_of over.fixed.rules over.history asker) at now) (at_end session.phase n) turn.under_way.taken;
  }

pub over_by : (store : Store) (a b : Asker) (session : SessionState) → a ≡ b → IsOver store b session → IsOver store a session
over_by store a b session same over = subst (λ (own : Asker). IsOver store own session) (sym same) over
