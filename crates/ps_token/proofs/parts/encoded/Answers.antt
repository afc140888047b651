use Rattle.ps_token.proofs.Alphabet.{part_back, are_bytes}
use Rattle.ps_token.proofs.parts.encoded.Goals as goal

pub returns-clause-back : goal.returns-clause-back
returns-clause-back c = part_back c.args.bytes.now (are_bytes c.args.bytes.now c.type_inv.bytes)
