use Rattle.std.proofs.Common.{Err, refl, ap, ◌∙◌}
use Rattle.ps_files.specs.ReadingChanges.{usual}
use Rattle.ps_files.proofs.Reaching.{wrote_some, full_by}
use Rattle.ps_files.proofs.change_files.write_some.Goals as goal

pub returns-in-Ok : goal.returns-in-Ok
returns-in-Ok c = λ rules ts left passed h some.
    let wrote = rw c.in-Ok.is at (c.write_batch.ensures (usual rules) h.history h.stands) in
    wrote_some c.ledgers_tell_histories.ensures c.ledgers_tell_ops.ensures.one rules ts left passed c.args.store.now h 1000 c.in-Ok.wrote.changes c.write_batch.new.self refl wrote.0 wrote.1 wrote.4

pub returns-in-Err-OpsFull : goal.returns-in-Err-OpsFull
returns-in-Err-OpsFull c = λ rules ts left passed h some.
    let refused = rw (c.in-Err-OpsFull.is ∙ ap Err c.in-Err-OpsFull.field-0-is) at (c.write_batch.ensures (usual rules) h.history h.stands) in
    let why = refused.0 in
    full_by c.ledgers_tell_histories.ensures c.ledgers_tell_ops.ensures.one rules ts left passed c.args.store.now h c.write_batch.new.self c.in-Err-OpsFull.last.0 why.0 why.1 why.2 why.3 why.4 why.5
