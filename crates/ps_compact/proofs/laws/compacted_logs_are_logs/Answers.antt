use Rattle.ps_compact.proofs.Kept.{compacted_is_log}
use Rattle.ps_compact.proofs.laws.compacted_logs_are_logs.Goals as goal

pub returns : goal.returns
returns c = compacted_is_log
