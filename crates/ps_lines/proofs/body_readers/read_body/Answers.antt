use Rattle.ps_lines.proofs.BodyFound.{found_of}
use Rattle.ps_lines.proofs.BodyOnly.{only_of}
use Rattle.ps_lines.proofs.body_readers.read_body.Goals as goal

pub returns-clause-found : goal.returns-clause-found
returns-clause-found c = found_of c.decimals_read_back.ensures c.args.bytes.now _ c.read_whole_body.ensures.exact

pub returns-clause-only : goal.returns-clause-only
returns-clause-only c = only_of c.decimals_read_back.ensures c.args.bytes.now _ c.read_whole_body.ensures.exact
