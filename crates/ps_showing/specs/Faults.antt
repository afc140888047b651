-- Faults of a client that are out of memory.
use Rattle.ps_client.specs.declared.faults.ClientFault.{ClientFault}
use Rattle.ps_client.specs.declared.faults.ClientFault.TheVariants.{OutOfOrder, BadLine, KeeperFault, QueueEmpty, QueueWaiting, Memory}

-- a fault of a client that is out of memory
abbrev pub IsWant : ClientFault → Type 0
IsWant OutOfOrder = ⊥
IsWant (BadLine fault) = ⊥
IsWant KeeperFault = ⊥
IsWant QueueEmpty = ⊥
IsWant (QueueWaiting length) = ⊥
IsWant Memory = Unit {0}
