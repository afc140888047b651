use Rattle.ps_progress.proofs.Off.{off_stays}
use Rattle.ps_progress.proofs.laws.meters_that_are_off_tell_nothing.Goals as goal

pub returns : goal.returns
returns c = off_stays
