use Rattle.std.proofs.Common.{Ok, Err, subst, ◌∙◌}
use Rattle.std.proofs.lemmas.Result.{err_from_is_err_and}
use Rattle.ps_answers.specs.Numbers.{position_in}
use Rattle.ps_answers.specs.Requests as requests
use Rattle.ps_client.specs.States.{state}
use Rattle.ps_syncing.specs.Exchanges.{ClosesOne}
use Rattle.ps_syncing.specs.Numbers.{Numbers}
use Rattle.ps_syncing.proofs.Counting.{first_waiting}
use Rattle.ps_syncing.proofs.Failing.{FailsSo-upload}
use Rattle.ps_syncing.proofs.numbers.upload_one.Goals as goal

pub returns-in_err-_position-clause-fails : goal.returns-in_err-_position-clause-fails
returns-in_err-_position-clause-fails g c =
    let old = g.L.Link.closed c.args.link.now in
    let new = g.L.Link.closed c.upload.new.link in
    let service = c.args.service.now in
    let first = first_waiting (state c.args.client.now).kept.queue c.in-Some.body.items (rw c.in-Some.is at c.in_ok-body.ensures.value) in
    let p = err_from_is_err_and c.from_residual-in_err-_position.result c.from_residual-in_err-_position.ensures.1 in
    rw (p.1, p.2) (FailsSo-upload service first.0 old new c.in_err-_position.field-0.0
    (subst (λ body. Numbers (ClosesOne old new (requests.upload_text service.address service.token body)) position_in (Err c.in_err-_position.field-0.0))
    (c.as_slice.ensures.value ∙ first.3) c.in_err-_position.ensures.numbers))

pub returns-in-Ok-clause-uploads : goal.returns-in-Ok-clause-uploads
returns-in-Ok-clause-uploads g c =
    let old = g.L.Link.closed c.args.link.now in
    let new = g.L.Link.closed c.upload.new.link in
    let service = c.args.service.now in
    let first = first_waiting (state c.args.client.now).kept.queue c.in-Some.body.items (rw c.in-Some.is at c.in_ok-body.ensures.value) in
    let said = subst (λ body. Numbers (ClosesOne old new (requests.upload_text service.address service.token body)) position_in (Ok c.in_ok-_position._position))
    (c.as_slice.ensures.value ∙ first.3) c.in_ok-_position.ensures.numbers in
    record {
      change = first.0;
      changes = first.1;
      one = said.0;
      waited = first.2;
      closed = said.1;
      is = record { asks = said.2; position = c.in_ok-_position._position; answered = said.3 };
      new_is = c.in-Ok.ensures.ok;
    }
