use Rattle.ps_values.proofs.Decimals.{reads_what_is_written}
use Rattle.ps_values.proofs.laws.decimals_read_back.Goals as goal

pub returns : goal.returns
returns c = reads_what_is_written
