use Rattle.ps_token.proofs.Answering.{found_keys, only_keys}
use Rattle.ps_token.proofs.key_files.read_keys.Goals as goal

pub returns-clause-found : goal.returns-clause-found
returns-clause-found c = found_keys c.read_file.result c.args.bytes.now c.read_file.ensures.exact

pub returns-clause-only : goal.returns-clause-only
returns-clause-only c = λ meant is. only_keys c.read_file.result c.args.bytes.now meant c.read_file.ensures.exact is
