use Rattle.std.proofs.Common.{Err, ap, ◌∙◌}
use Rattle.ps_snapshot.proofs.Pending.{wrote_some, too_wide, ids_full, some_left}
use Rattle.ps_snapshot.proofs.writing.write_some.Goals as goal

pub returns-in-Ok : goal.returns-in-Ok
returns-in-Ok c = λ fixed fed left h some.
    let wrote = rw c.in-Ok.is at (c.write_batch.ensures fixed h.history h.stands) in
    wrote_some fixed fed left c.args.store.now h 1000 c.in-Ok.wrote.changes c.write_batch.new.self wrote.0 wrote.1 wrote.4

pub returns-in-Err-TooWide : goal.returns-in-Err-TooWide
returns-in-Err-TooWide c = λ fixed fed left h some.
    let refused = rw (c.in-Err-TooWide.is ∙ ap Err c.in-Err-TooWide.field-0-is) at (c.write_batch.ensures fixed h.history h.stands) in
    too_wide fixed fed left c.args.store.now h c.write_batch.new.self _ _ _ refused.0 refused.1

pub returns-in-Err-OpsFull : goal.returns-in-Err-OpsFull
returns-in-Err-OpsFull c = λ fixed fed left h some.
    let refused = rw (c.in-Err-OpsFull.is ∙ ap Err c.in-Err-OpsFull.field-0-is) at (c.write_batch.ensures fixed h.history h.stands) in
    ids_full fixed fed left c.args.store.now h c.write_batch.new.self _ refused.0 refused.1

pub unreachable-requires : goal.unreachable-requires
unreachable-requires c =
    let k = c.requires in
    let refused = rw (c.in-Err-NothingToWrite.is ∙ ap Err c.in-Err-NothingToWrite.field-0-is) at (c.write_batch.ensures k.0 k.3.history k.3.stands) in
    some_left k.0 k.1 k.2 c.args.store.now k.3 k.4 refused.0
