use Rattle.std.proofs.Common.{◌≡◌, [], Bool, false, refl, sym, subst}
use Rattle.std.proofs.lemmas.Result.{err_from_is_err_and}
use Rattle.ps_client.specs.Clients.{is_pending}
use Rattle.ps_client.specs.States.{state}
use Rattle.ps_syncing.specs.Runs.{AimsWhere}
use Rattle.ps_syncing.proofs.Failing.{Closes-none, FailsSo-number}
use Rattle.ps_syncing.proofs.numbers.aim.Goals as goal

pub returns-then-not-pending-clause-aims : goal.returns-then-not-pending-clause-aims
returns-then-not-pending-clause-aims g c =
    let kept = (state c.args.client.now).kept in
    let free : is_pending kept.target ≡ false = cc in
    record {
      exchanges = [];
      kept = kept;
      closed = Closes-none (g.L.Link.closed c.args.link.now);
      aims = subst (λ (b : Bool). AimsWhere b c.args.service.now kept kept []) (sym free) (refl, refl);
      new_is = refl;
    }

pub returns-in_err-number-clause-fails : goal.returns-in_err-number-clause-fails
returns-in_err-number-clause-fails g c =
    let p = err_from_is_err_and c.from_residual.result c.from_residual.ensures.1 in
    rw (p.1, p.2) (FailsSo-number c.args.service.now (g.L.Link.closed c.args.link.now) (g.L.Link.closed c.ask_number.new.link) c.in_err-number.field-0.0 c.in_err-number.ensures.numbers)
