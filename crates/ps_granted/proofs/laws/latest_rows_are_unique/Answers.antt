use Rattle.ps_granted.specs.Latest.{rows_of}
use Rattle.ps_granted.proofs.LatestCopies.{rows_are_latest, rows_are_one}
use Rattle.ps_granted.proofs.laws.latest_rows_are_unique.Goals as goal

pub returns : goal.returns
returns c copies rows ties are = rows_are_one copies ties rows (rows_of copies) are (rows_are_latest copies)
