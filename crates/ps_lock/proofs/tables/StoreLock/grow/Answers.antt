use Rattle.std.proofs.Common.{rules}
use Rattle.ps_lock.proofs.Keeping.{grows}
use Rattle.ps_lock.proofs.tables.StoreLock.grow.Goals as goal

pub fetch_add-requires : goal.fetch_add-requires
fetch_add-requires g c = (search rules, search rules, grows g.V.Kept.set_by g.V.Kept.stands _ _ _ _ _ g.J.Adds.entries _ c.requires.learnt c.requires.entry)
