use Rattle.std.proofs.Common.{◌≡◌, ◌≤◌, List, [], length}
use Rattle.ps_lines.specs.declared.bodies.Known.{Known}
use Rattle.ps_lines.specs.declared.lines.Line.{Line}
use Rattle.ps_store.specs.declared.events.Event.{Event}
use Rattle.ps_store.specs.declared.fixed.Fixed.{Fixed}
use Rattle.ps_store.specs.Stores.{StoreStandsFor}
use Rattle.ps_session.specs.Kept.{state_of}
use Rattle.ps_streams.specs.Ties.{HasTaken}
use Rattle.ps_serve.specs.Runs.{IsSending, HasStreamed}
use Rattle.ps_serve.specs.Turning.{course_for, IsHere, IsStreamingFor}
use Rattle.ps_serve.proofs.Falling.{rank}
use Rattle.ps_serve.proofs.streams.go_on.Given as goal

-- a checkpoint is being sent or is completed, and the lines of the turns so far were written
abbrev pub invariant-turns : goal.invariant-turns
invariant-turns g l = record {
  sending : IsSending (state_of l.session).phase;
  asker : l.session.asker ≡ l.fn.session.asker;
  here : (fixed : Fixed) (history : List Event) → StoreStandsFor fixed l.store history → IsHere fixed history l.fn.session
      → HasTaken (course_for fixed history l.fn.session) (length history) (state_of l.session);
  streamed : (fixed : Fixed) (history : List Event) (positions : List Known) (done : List Line) → StoreStandsFor fixed l.store history → IsStreamingFor fixed history positions l.fn.session done
      → HasStreamed (course_for fixed history l.fn.session) (length history) positions [] done (g.K.Sink.taken l.fn.to) (g.K.Sink.taken l.to) (state_of l.session);
  faults : g.K.Sink.faults l.fn.to ≤ g.K.Sink.faults l.to;
  number : g.K.Sink.number l.to ≡ g.K.Sink.number l.fn.to;
}

-- what is left to send
abbrev pub decreases-turns : goal.decreases-turns
decreases-turns g l = rank (state_of l.session)
