use Rattle.ps_token.proofs.Alphabet.{are_bytes}
use Rattle.ps_token.proofs.Answering.{found_claims, only_claims}
use Rattle.ps_token.proofs.verifying.verify.Goals as goal

pub returns-clause-found : goal.returns-clause-found
returns-clause-found c = found_claims c.verify_token.result c.args.keys.now c.args.token.now c.args.now c.verify_token.ensures.exact

pub returns-clause-only : goal.returns-clause-only
returns-clause-only c = λ claims is.
    only_claims c.verify_token.result c.args.keys.now c.args.token.now c.args.now claims c.kids_are_distinct.ensures (are_bytes c.args.token.now c.type_inv.token) c.verify_token.ensures.exact is
