-- A client's faults, as those of the command.
use Rattle.ps_client_log.specs.declared.faults.KeepFault.{KeepFault}
use Rattle.ps_client_log.specs.declared.faults.KeepFault.TheVariants as keeps
use Rattle.ps_client.specs.declared.faults.ClientFault.{ClientFault}
use Rattle.ps_client.specs.declared.faults.ClientFault.TheVariants as client
use Rattle.ps_syncing.specs.declared.faults.SyncFault.{SyncFault}
use Rattle.ps_syncing.specs.declared.faults.SyncFault.TheVariants.{ConnectionFailed, NoCheckpoint, Answered, Altered, LineTooLong, Memory}

-- a fault that a line may have
abbrev pub IsOfLine : ClientFault → Type 0
IsOfLine client.OutOfOrder = Unit {0}
IsOfLine (client.BadLine fault) = Unit {0}
IsOfLine client.KeeperFault = Unit {0}
IsOfLine client.QueueEmpty = ⊥
IsOfLine (client.QueueWaiting length) = ⊥
IsOfLine client.Memory = Unit {0}

abbrev pub of_line : ClientFault → SyncFault
of_line client.OutOfOrder = Altered
of_line (client.BadLine fault) = Altered
of_line client.KeeperFault = ConnectionFailed
of_line client.QueueEmpty = Altered
of_line (client.QueueWaiting length) = Altered
of_line client.Memory = Memory

abbrev pub of_keeper : ClientFault → SyncFault
of_keeper client.OutOfOrder = Memory
of_keeper (client.BadLine fault) = Memory
of_keeper client.KeeperFault = ConnectionFailed
of_keeper client.QueueEmpty = Memory
of_keeper (client.QueueWaiting length) = Memory
of_keeper client.Memory = Memory

-- a fault of a call that fails for its keeper and for memory alone
abbrev pub IsOfKeeper : SyncFault → Type 0
IsOfKeeper ConnectionFailed = Unit {0}
IsOfKeeper NoCheckpoint = ⊥
IsOfKeeper (Answered status) = ⊥
IsOfKeeper Altered = ⊥
IsOfKeeper (LineTooLong seen) = ⊥
IsOfKeeper Memory = Unit {0}

-- a fault of a keeper that could not be loaded
abbrev pub of_keep : KeepFault → SyncFault
of_keep keeps.Failed = ConnectionFailed
of_keep keeps.Memory = Memory
