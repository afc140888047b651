use Rattle.ps_files.proofs.MadeInput.{made_is_admitted}
use Rattle.ps_files.proofs.laws.made_input_is_admitted.Goals as goal

pub returns : goal.returns
returns c = made_is_admitted
