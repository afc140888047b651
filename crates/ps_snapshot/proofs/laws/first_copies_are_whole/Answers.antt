use Rattle.ps_snapshot.proofs.Copying.{whole}
use Rattle.ps_snapshot.proofs.laws.first_copies_are_whole.Goals as goal

pub returns : goal.returns
returns c = whole
