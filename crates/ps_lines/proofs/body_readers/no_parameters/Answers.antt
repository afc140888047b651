use Rattle.ps_lines.proofs.Parameters.{empty_parameters}
use Rattle.ps_lines.proofs.body_readers.no_parameters.Goals as goal

pub returns-clause-is_one : goal.returns-clause-is_one
returns-clause-is_one c = empty_parameters _ c.in_ok-text.ensures c.bytes-utf8.ensures.utf8
