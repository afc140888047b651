use Rattle.ps_client.proofs.Maps.{last_told, others_told}
use Rattle.ps_client.proofs.laws.tables_are_maps.Goals as goal

pub returns : goal.returns
returns c = record { last = last_told; others = others_told }
