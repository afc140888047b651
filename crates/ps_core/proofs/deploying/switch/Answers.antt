use Rattle.std.proofs.Common.{Err, ap, ◌∙◌}
use Rattle.ps_core.proofs.NewRules.{half_written_so, no_id_so, none_to_switch, not_built_so, switched_so}
use Rattle.ps_core.proofs.deploying.switch.Goals as goal

pub returns-in-Ok : goal.returns-in-Ok
returns-in-Ok c = λ fixed play stands. switched_so fixed play c.switch.new.self c.in-Ok.checkpoint (c.in-Ok.ensures fixed play.history stands)

pub returns-in-Err-NothingBuilding : goal.returns-in-Err-NothingBuilding
returns-in-Err-NothingBuilding c = λ fixed play stands.
    none_to_switch fixed play c.switch.new.self (rw (c.in-Err-NothingBuilding.is ∙ ap Err c.in-Err-NothingBuilding.field-0-is) at (c.switch.ensures fixed play.history stands))

pub returns-in-Err-NotBuilt : goal.returns-in-Err-NotBuilt
returns-in-Err-NotBuilt c = λ fixed play stands.
    not_built_so fixed play c.switch.new.self c.in-Err-NotBuilt.left (rw (c.in-Err-NotBuilt.is ∙ ap Err c.in-Err-NotBuilt.field-0-is) at (c.switch.ensures fixed play.history stands))

pub returns-in-Err-HalfWritten : goal.returns-in-Err-HalfWritten
returns-in-Err-HalfWritten c = λ fixed play stands.
    half_written_so fixed play c.switch.new.self c.in-Err-HalfWritten.changes (rw (c.in-Err-HalfWritten.is ∙ ap Err c.in-Err-HalfWritten.field-0-is) at (c.switch.ensures fixed play.history stands))

pub returns-in-Err-OpsFull : goal.returns-in-Err-OpsFull
returns-in-Err-OpsFull c = λ fixed play stands.
    no_id_so fixed play c.switch.new.self c.in-Err-OpsFull.last (rw (c.in-Err-OpsFull.is ∙ ap Err c.in-Err-OpsFull.field-0-is) at (c.switch.ensures fixed play.history stands))
