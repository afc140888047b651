use Rattle.std.proofs.Common.{Some, sym, subst}
use Rattle.ps_workers.specs.declared.stages.Pace.{Pace}
use Rattle.ps_workers.specs.declared.stages.Stage.{Stage}
use Rattle.ps_workers.specs.Renewing.{IsUnder, GoesOn}
use Rattle.ps_workers.specs.Sharing.{fixed_of}
use Rattle.ps_workers.proofs.Renewed.{under_deploy, goes_on_deployed}
use Rattle.ps_workers.proofs.renewing.deploy_on.Goals as goal

pub returns-clause-under : goal.returns-clause-under
returns-clause-under g c = λ terms.
    subst (λ (r : Stage × Pace). IsUnder terms r.0) (sym c.after_deploy-stage.ensures) (under_deploy terms c.deploy_next-seat.result.1)

pub returns-clause-goes_on : goal.returns-clause-goes_on
returns-clause-goes_on g c = λ batch.
    let fixed = fixed_of c.args.place.now.lock.now in
    let now = c.deploy_next-seat.result in
    subst (λ (r : Stage × Pace). GoesOn fixed (Some c.args.next) batch c.args.seat now.0 r.0 r.1) (sym c.after_deploy-stage.ensures)
    (goes_on_deployed fixed batch c.args.seat now.0 c.args.next now.1 (c.deploy_next-seat.ensures.deploys batch))
