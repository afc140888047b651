use Rattle.std.proofs.Common.{Err, ap, ◌∙◌}
use Rattle.ps_files.specs.ReadingChanges.{usual}
use Rattle.ps_files.proofs.Reaching.{fed_more, is_past}
use Rattle.ps_files.proofs.change_files.feed.Goals as goal

pub returns-in-Ok : goal.returns-in-Ok
returns-in-Ok c = λ rules done h later. fed_more rules done c.args.store.now h c.args.transaction c.feed.new.self later (rw c.in-Ok.is at (c.feed.ensures (usual rules) h.history h.stands))

pub unreachable-requires-in-Err-NotRising : goal.unreachable-requires-in-Err-NotRising
unreachable-requires-in-Err-NotRising c =
    let k = c.requires.committed in
    let refused = rw (c.in-Err-NotRising.is ∙ ap Err c.in-Err-NotRising.field-0-is) at (c.feed.ensures (usual k.0) k.2.history k.2.stands) in
    is_past k.0 k.1 c.args.store.now k.2 c.args.transaction k.3 refused.1
