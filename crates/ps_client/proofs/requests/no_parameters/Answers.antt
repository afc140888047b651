use Rattle.ps_client.proofs.Requesting.{empty_parameters}
use Rattle.ps_client.proofs.requests.no_parameters.Goals as goal

pub returns-clause-plain : goal.returns-clause-plain
returns-clause-plain c = empty_parameters _ c.in_ok-text.ensures c.bytes-utf8.ensures.utf8
