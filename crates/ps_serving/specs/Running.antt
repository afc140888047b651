-- What the threads of a service make of its history.
use Rattle.std.specs.Prelude.{ℕ, false, List, [], length, Option}
use mathlib.Core.List.{IsPrefix}
use Rattle.ps_connections.specs.declared.ended.Ended.{Ended}
use Rattle.ps_connections.specs.declared.ended.Stop.TheVariants.{NoRoom}
use Rattle.ps_connections.specs.Answers.{HaveServed, IsAnswered}
use Rattle.ps_doors.specs.Connections.{Connection}
use Rattle.ps_rows.specs.declared.changes.Transaction.{Transaction}
use Rattle.ps_serve.specs.declared.sites.Site.{Site}
use Rattle.ps_store.specs.declared.events.Event.{Event}
use Rattle.ps_store.specs.declared.fixed.Fixed.{Fixed}
use Rattle.ps_streams.specs.Serving.{IsValid}
use Rattle.ps_workers.specs.declared.ends.WorkEnd.{WorkEnd}
use Rattle.ps_workers.specs.declared.stages.NextRules.{NextRules}
use Rattle.ps_workers.specs.Work.{EndsWriting}

-- a writer that was given no transactions, and next rules or none, ended so, at a history between these two
pub record WroteTo (fixed : Fixed) (next : Option NextRules) (before after : List Event) (end : WorkEnd) : Type 0 where
  pub seen : List Event
  pub later : IsPrefix before seen
  pub earlier : IsPrefix seen after
  pub fed : List Transaction
  pub ends : EndsWriting fixed next seen [] fed end

-- the connections of doors were served, as it is in this history; what they added to it are own entries
pub record HaveAnswers (fixed : Fixed) (site : Site) (may_give : ℕ → Type 0) (low : ℕ) (history : List Event) (first : ℕ) (before after : Option (List Connection)) (ended : Ended) : Type 0 where
  pub own : List (Event × ℕ)
  pub own_then : List (Event × ℕ)
  pub served : HaveServed (IsAnswered fixed site may_give low history) first before after ended.connections ended.out_of_memory own own_then

-- so it is in each legal history that goes on from this one
abbrev pub ServesUpTo : Fixed → Site → (ℕ → Type 0) → List Event → List Event → ℕ → Option (List Connection) → Option (List Connection) → Ended → Type 0
ServesUpTo fixed site may_give start seen first before after ended =
    (history : List Event) → IsPrefix seen history → IsValid fixed history → HaveAnswers fixed site may_give (length start) history first before after ended

-- no connection was taken, for out of memory
abbrev pub none_taken : Ended
none_taken = record { stop = NoRoom; connections = 0; out_of_memory = false }
