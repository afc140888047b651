use Rattle.std.proofs.Common.{sym, ◌∙◌}
use Rattle.ps_lock.specs.Words.{seen_by}
use Rattle.ps_workers.specs.declared.stages.Stage.TheVariants.{Building}
use Rattle.ps_workers.specs.Sharing.{fixed_of}
use Rattle.ps_workers.proofs.Renewed.{some_at, at_later, under_build, goes_on_built, built_written}
use Rattle.ps_workers.proofs.Writer.{goes_from}
use Rattle.ps_workers.proofs.renewing.build_on.Goals as goal

pub returns-in-Ok-clause-goes_on : goal.returns-in-Ok-clause-goes_on
returns-in-Ok-clause-goes_on g c = λ next at.
    let fixed = fixed_of c.args.place.now.lock.now in
    let built = c.build_next-seat.result in
    let now = c.switch_on.result in
    let wrote = built_written fixed c.args.batch c.args.seat built.0 next at built.1 (c.build_next-seat.ensures.builds next (some_at fixed next (seen_by c.args.seat) at)) in
    goes_from fixed next c.args.batch c.args.seat built.0 now.0 now.1 now.2 wrote
    (c.switch_on.ensures.goes_on next c.args.batch (at_later fixed next (seen_by c.args.seat) (seen_by built.0) Building wrote.worked.saw at))

pub returns-in-Err-clause-goes_on : goal.returns-in-Err-clause-goes_on
returns-in-Err-clause-goes_on g c = λ next at.
    let fixed = fixed_of c.args.place.now.lock.now in
    let built = c.build_next-seat.result in
    goes_on_built fixed c.args.batch c.args.seat built.0 next at built.1 (c.in-Err.stage, c.in-Err.pace) (sym c.after_build.ensures ∙ c.in-Err.is)
    (c.build_next-seat.ensures.builds next (some_at fixed next (seen_by c.args.seat) at))

pub returns-in-Err-clause-under : goal.returns-in-Err-clause-under
returns-in-Err-clause-under g c = λ terms. under_build terms c.build_next-seat.result.1 (c.in-Err.stage, c.in-Err.pace) (sym c.after_build.ensures ∙ c.in-Err.is)
