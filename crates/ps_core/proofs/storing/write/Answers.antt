use Rattle.std.proofs.Common.{Err, ap, ◌∙◌}
use Rattle.ps_core.proofs.StoreSteps.{nothing_to_write, ops_full, too_wide, wrote_so}
use Rattle.ps_core.proofs.storing.write.Goals as goal

pub returns-in-Ok : goal.returns-in-Ok
returns-in-Ok c = λ fixed play stands. wrote_so fixed play c.write_batch.new.self c.args.limit c.in-Ok.wrote c.requires.some c.requires.limit (c.in-Ok.ensures fixed play.history stands)

pub returns-in-Err-TooWide : goal.returns-in-Err-TooWide
returns-in-Err-TooWide c = λ fixed play stands.
    too_wide fixed play c.write_batch.new.self c.args.limit c.in-Err-TooWide.field-0-0 c.in-Err-TooWide.field-0-1 c.in-Err-TooWide.count c.requires.some c.requires.limit
    (rw (c.in-Err-TooWide.is ∙ ap Err c.in-Err-TooWide.field-0-is) at (c.write_batch.ensures fixed play.history stands))

pub returns-in-Err-OpsFull : goal.returns-in-Err-OpsFull
returns-in-Err-OpsFull c = λ fixed play stands.
    ops_full fixed play c.write_batch.new.self c.args.limit c.in-Err-OpsFull.last c.requires.some c.requires.limit
    (rw (c.in-Err-OpsFull.is ∙ ap Err c.in-Err-OpsFull.field-0-is) at (c.write_batch.ensures fixed play.history stands))

pub returns-in-Err-NothingToWrite : goal.returns-in-Err-NothingToWrite
returns-in-Err-NothingToWrite c = λ fixed play stands.
    nothing_to_write fixed play c.write_batch.new.self c.args.limit c.requires.some c.requires.limit
    (rw (c.in-Err-NothingToWrite.is ∙ ap Err c.in-Err-NothingToWrite.field-0-is) at (c.write_batch.ensures fixed play.history stands))
