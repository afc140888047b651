use Rattle.ps_write_cp.proofs.Covering.{covers_all}
use Rattle.ps_write_cp.proofs.laws.covers_all_before.Goals as goal

pub returns : goal.returns
returns c = covers_all
