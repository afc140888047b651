use Rattle.ps_store.proofs.OneGeneration.{tells_one, tells_ops, reads_one}
use Rattle.ps_store.proofs.laws.ledgers_tell_ops.Goals as goal

pub returns : goal.returns
returns c = record { one = tells_one; ops = tells_ops; reads = reads_one }
