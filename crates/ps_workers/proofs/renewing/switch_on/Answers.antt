use Rattle.std.proofs.Common.{sym, subst}
use Rattle.ps_lock.specs.Words.{seen_by}
use Rattle.ps_workers.specs.declared.stages.Pace.{Pace}
use Rattle.ps_workers.specs.declared.stages.Stage.{Stage}
use Rattle.ps_workers.specs.Renewing.{IsUnder, GoesOn}
use Rattle.ps_workers.specs.Sharing.{fixed_of}
use Rattle.ps_workers.proofs.Renewed.{some_at, under_switch, goes_on_switched}
use Rattle.ps_workers.proofs.renewing.switch_on.Goals as goal

pub returns-clause-under : goal.returns-clause-under
returns-clause-under g c = λ terms.
    subst (λ (r : Stage × Pace). IsUnder terms r.0) (sym c.after_switch-stage.ensures) (under_switch terms c.switch_next-seat.result.1 c.args.wrote)

pub returns-clause-goes_on : goal.returns-clause-goes_on
returns-clause-goes_on g c = λ next batch at.
    let fixed = fixed_of c.args.place.now.lock.now in
    let now = c.switch_next-seat.result in
    subst (λ (r : Stage × Pace). GoesOn fixed next batch c.args.seat now.0 r.0 r.1) (sym c.after_switch-stage.ensures)
    (goes_on_switched fixed batch c.args.seat now.0 next at now.1 c.args.wrote (c.switch_next-seat.ensures.switches next batch (some_at fixed next (seen_by c.args.seat) at)))
