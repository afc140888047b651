use Rattle.std.proofs.Common.{sym}
use Rattle.ps_token.proofs.Tokens.{signed_accepted}
use Rattle.ps_token.proofs.signing.sign.Goals as goal

pub returns-clause-accepted : goal.returns-clause-accepted
returns-clause-accepted c = λ claims now claimed fresh.
    signed_accepted c.args.keys.now c.in-Some.key.now c.args.kid.now c.args.payload.now c.in_ok-token.token claims now c.kids_are_distinct.ensures (sym c.in-Some.ensures)
    c.in_ok-token.ensures.read_again c.in_ok-token.ensures.text claimed fresh
