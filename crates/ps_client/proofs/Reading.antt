-- The faults of bytes that are read as a line.
use Rattle.std.proofs.Common.{ℕ, List, Result, ap}
use Rattle.ps_lines.specs.declared.faults.LineFault.{LineFault}
use Rattle.ps_lines.specs.declared.lines.Line.{Line}
use Rattle.ps_lines.specs.Reading.{line_of}
use Rattle.ps_client.specs.declared.faults.ClientFault.{ClientFault}
use Rattle.ps_client.specs.declared.faults.ClientFault.TheVariants.{OutOfOrder, BadLine, KeeperFault, QueueEmpty, QueueWaiting, Memory}
use Rattle.ps_client.specs.Clients.{PlainClient, taken_if, line_taken}
use Rattle.ps_client.specs.Keepers.{RoseAtFault}
use Rattle.ps_client.specs.Taking.{IsFault, IsReadFault}

pub read_fault : (client : PlainClient) (bytes : List ℕ) (fault : ClientFault) → IsReadFault (line_of bytes) fault → IsFault (line_taken client bytes) fault
read_fault client bytes OutOfOrder is = absurd is
read_fault client bytes (BadLine fault) is = ap (λ (meant : Result Line LineFault). (taken_if client meant).answer) is
read_fault client bytes KeeperFault is = absurd is
read_fault client bytes QueueEmpty is = absurd is
read_fault client bytes (QueueWaiting length) is = absurd is
read_fault client bytes Memory is = tt

pub read_rose : (meant : Result Line LineFault) (fault : ClientFault) (before now : ℕ) → IsReadFault meant fault → RoseAtFault fault before now
read_rose meant OutOfOrder before now is = tt
read_rose meant (BadLine fault) before now is = tt
read_rose meant KeeperFault before now is = absurd is
read_rose meant QueueEmpty before now is = tt
read_rose meant (QueueWaiting length) before now is = tt
read_rose meant Memory before now is = tt
