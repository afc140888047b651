use Rattle.ps_answers.specs.Readers.{left_of}
use Rattle.ps_syncing.proofs.Flows.{LeavesFew-any}
use Rattle.ps_syncing.proofs.streams.take_next.Goals as goal

pub returns-in-Ok-Whole-clause-ahead : goal.returns-in-Ok-Whole-clause-ahead
returns-in-Ok-Whole-clause-ahead g c few = LeavesFew-any (left_of c.next_line.new.self) c.take_part.result (c.in-Ok-Whole.ensures.ahead few)
