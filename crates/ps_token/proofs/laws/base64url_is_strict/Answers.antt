use Rattle.ps_token.proofs.Alphabet.{part_exactly}
use Rattle.ps_token.proofs.laws.base64url_is_strict.Goals as goal

pub returns : goal.returns
returns c = part_exactly
