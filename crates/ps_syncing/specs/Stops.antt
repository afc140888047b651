-- A client's faults, as those of the command.
use Rattle.ps_files.specs.declared.faults.Fault.TheVariants as shared
use Rattle.ps_files.specs.declared.faults.Limit.TheVariants.{LineBytes}
use Rattle.ps_syncing.specs.declared.faults.SyncFault.{SyncFault}
use Rattle.ps_syncing.specs.declared.faults.SyncFault.TheVariants.{ConnectionFailed, NoCheckpoint, Answered, Altered, LineTooLong, Memory}
use Rattle.ps_syncing.specs.declared.stops.Stop.{Stop}
use Rattle.ps_syncing.specs.declared.stops.Stop.TheVariants as stops

abbrev pub stop_of : SyncFault → Stop
stop_of ConnectionFailed = stops.ConnectionFailed
stop_of NoCheckpoint = stops.NoCheckpoint
stop_of (Answered status) = stops.Answered status
stop_of Altered = stops.Altered
stop_of (LineTooLong seen) = stops.Shared (shared.PastLimit (LineBytes seen))
stop_of Memory = stops.Shared shared.Memory
