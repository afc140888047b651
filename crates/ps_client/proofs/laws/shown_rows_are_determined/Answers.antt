use Rattle.ps_client.proofs.LatestRows.{one_way}
use Rattle.ps_client.proofs.laws.shown_rows_are_determined.Goals as goal

pub returns : goal.returns
returns c = one_way
