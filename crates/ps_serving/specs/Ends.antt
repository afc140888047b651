-- What the ends of a service's threads make of its status.
use Rattle.std.specs.Prelude.{Bool, true, false, ◌||◌, if◌then◌else◌, Option, Some, None, option_map, Result, Ok, Err}
use Rattle.ps_connections.specs.declared.ended.Ended.{Ended}
use Rattle.ps_connections.specs.declared.ended.Stop.{Stop}
use Rattle.ps_connections.specs.declared.ended.Stop.TheVariants.{NoneToCome, Most, NoRoom, Failed}
use Rattle.ps_files.specs.declared.faults.Fault.{Fault}
use Rattle.ps_files.specs.declared.faults.Fault.TheVariants as faults
use Rattle.ps_files.specs.declared.faults.Limit.TheVariants.{Entries, Operations}
use Rattle.ps_serve_inputs.specs.declared.faults.ServeFault.{ServeFault}
use Rattle.ps_serve_inputs.specs.declared.faults.ServeFault.TheVariants.{Plain, ConnectionFailed}
use Rattle.ps_workers.specs.declared.ends.WorkEnd.{WorkEnd}
use Rattle.ps_workers.specs.declared.ends.WorkEnd.TheVariants.{Drained, Stopped, TooWide, OpsFull, Memory}
use Rattle.ps_serving.specs.declared.ends.Ends.{Ends}

-- the writer's fault; it is given no transactions, so it is never stopped
abbrev pub writer_fault : WorkEnd → Option Fault
writer_fault Drained = None
writer_fault Stopped = Some faults.Memory
writer_fault (TooWide count) = Some (faults.PastLimit (Entries count))
writer_fault (OpsFull last) = Some (faults.PastLimit (Operations last.0))
writer_fault Memory = Some faults.Memory

-- the compactor's, which is stopped where the writer ended, and refused nothing
abbrev pub compactor_fault : WorkEnd → Option Fault
compactor_fault Drained = None
compactor_fault Stopped = None
compactor_fault (TooWide count) = Some faults.Memory
compactor_fault (OpsFull last) = Some faults.Memory
compactor_fault Memory = Some faults.Memory

-- that of the doors
abbrev pub doors_fault : Stop → Option ServeFault
doors_fault NoneToCome = None
doors_fault Most = None
doors_fault NoRoom = None
doors_fault Failed = Some ConnectionFailed

-- that of the output
abbrev pub output_fault : Result (Unit {0}) Fault → Option Fault
output_fault (Ok done) = None
output_fault (Err fault) = Some fault

-- no room for a worker, or a connection that ended for out of memory
abbrev pub is_no_room : Stop → Bool
is_no_room NoneToCome = false
is_no_room Most = false
is_no_room NoRoom = true
is_no_room Failed = false

abbrev pub room_fault : Ended → Option Fault
room_fault ended = if is_no_room ended.stop || ended.out_of_memory then Some faults.Memory else None

abbrev pub first_of : Option ServeFault → Option ServeFault → Option ServeFault
first_of (Some fault) later = Some fault
first_of None later = later

-- of several faults the writer's comes first, then the compactor's, that of the doors, that of the output, and that of the connections
abbrev pub fault_after : Ends → Result (Unit {0}) Fault → Option ServeFault
fault_after ends printed =
    first_of (option_map Plain (writer_fault ends.writer)) (first_of (option_map Plain (compactor_fault ends.compactor))
    (first_of (doors_fault ends.connections.stop) (first_of (option_map Plain (output_fault printed)) (option_map Plain (room_fault ends.connections)))))

abbrev pub unless_fault : Option ServeFault → Result (Unit {0}) ServeFault
unless_fault None = Ok tt
unless_fault (Some fault) = Err fault
