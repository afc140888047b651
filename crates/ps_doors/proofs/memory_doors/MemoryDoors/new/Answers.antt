-- Nothing is closed yet.
use Rattle.ps_doors.proofs.Room.{none_below, none_equal}
use Rattle.ps_doors.proofs.memory_doors.MemoryDoors.new.Goals as goal

pub invariant_of-result-clause-below : goal.invariant_of-result-clause-below
invariant_of-result-clause-below c = none_below c.in_ok-closed.closed.items 0 c.in_ok-closed.ensures.items

pub invariant_of-result-clause-distinct : goal.invariant_of-result-clause-distinct
invariant_of-result-clause-distinct c = none_equal c.in_ok-closed.closed.items c.in_ok-closed.ensures.items
