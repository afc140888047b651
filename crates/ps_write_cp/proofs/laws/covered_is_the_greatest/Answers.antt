use Rattle.ps_write_cp.proofs.Covering.{covered_is_greatest}
use Rattle.ps_write_cp.proofs.laws.covered_is_the_greatest.Goals as goal

pub returns : goal.returns
returns c = covered_is_greatest
