use Rattle.std.proofs.Common.{refl, inr, ◌++◌, ◌∙◌}
use Rattle.ps_answers.specs.Readers.{left_of}
use Rattle.ps_syncing.specs.Exchanges.{given_of}
use Rattle.ps_syncing.proofs.Beginning.{HasGiven-regrouped, ended_of-has}
use Rattle.ps_syncing.proofs.exchanges.take_body.Goals as goal

pub returns-in-Ok-Cut-clause-answers : goal.returns-in-Ok-Cut-clause-answers
returns-in-Ok-Cut-clause-answers g c old request has =
    let new = g.S.Source.input c.next_body.new.from in
    let left = left_of c.next_body.new.self in
    let says = rw c.in-Ok-Cut.field-0-is at c.in-Ok-Cut.ensures.body in
    let taken = says (given_of old ++ has.front) has.given in (
      has.front ++ left,
      HasGiven-regrouped new (given_of old) has.front left taken.0,
      inr (record {
        states = _;
        behind = left;
        headed = record { head = has.head; front = has.front; bytes = refl; is_head = has.is_head; status_is = has.status_is; states = has.states ∙ c.in-Some.is };
        lacks = (taken.1, ended_of-has new taken.2);
      }),
    )
