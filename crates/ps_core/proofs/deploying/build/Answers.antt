use Rattle.std.proofs.Common.{Err, ap, ◌∙◌}
use Rattle.ps_core.proofs.NewRules.{built_so, none_to_build, nothing_to_build, takes_too_many, takes_too_wide}
use Rattle.ps_core.proofs.deploying.build.Goals as goal

pub returns-in-Ok : goal.returns-in-Ok
returns-in-Ok c = λ fixed play stands. built_so fixed play c.build_batch.new.self c.args.limit c.in-Ok.built c.requires.some c.requires.limit (c.in-Ok.ensures fixed play.history stands)

pub returns-in-Err-NothingBuilding : goal.returns-in-Err-NothingBuilding
returns-in-Err-NothingBuilding c = λ fixed play stands.
    none_to_build fixed play c.build_batch.new.self c.args.limit c.requires.some c.requires.limit
    (rw (c.in-Err-NothingBuilding.is ∙ ap Err c.in-Err-NothingBuilding.field-0-is) at (c.build_batch.ensures fixed play.history stands))

pub returns-in-Err-NothingToBuild : goal.returns-in-Err-NothingToBuild
returns-in-Err-NothingToBuild c = λ fixed play stands.
    nothing_to_build fixed play c.build_batch.new.self c.args.limit c.requires.some c.requires.limit
    (rw (c.in-Err-NothingToBuild.is ∙ ap Err c.in-Err-NothingToBuild.field-0-is) at (c.build_batch.ensures fixed play.history stands))

pub returns-in-Err-TooWide : goal.returns-in-Err-TooWide
returns-in-Err-TooWide c = λ fixed play stands.
    takes_too_wide fixed play c.build_batch.new.self c.args.limit c.in-Err-TooWide.field-0-0 c.in-Err-TooWide.field-0-1 c.in-Err-TooWide.count c.requires.some c.requires.limit
    (rw (c.in-Err-TooWide.is ∙ ap Err c.in-Err-TooWide.field-0-is) at (c.build_batch.ensures fixed play.history stands))

pub returns-in-Err-OpsFull : goal.returns-in-Err-OpsFull
returns-in-Err-OpsFull c = λ fixed play stands.
    takes_too_many fixed play c.build_batch.new.self c.args.limit c.in-Err-OpsFull.last c.requires.some c.requires.limit
    (rw (c.in-Err-OpsFull.is ∙ ap Err c.in-Err-OpsFull.field-0-is) at (c.build_batch.ensures fixed play.history stands))
