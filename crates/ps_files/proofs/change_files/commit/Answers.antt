use Rattle.std.proofs.Common.{refl}
use Rattle.ps_files.specs.ReadingChanges.{usual}
use Rattle.ps_files.proofs.Reaching.{commits}
use Rattle.ps_files.proofs.change_files.commit.Goals as goal

pub returns : goal.returns
returns c = λ rules ts passed h. commits c.ledgers_tell_histories.ensures c.ledgers_tell_ops.ensures.one rules ts 0 passed c.args.store.now h c.commit.new.self refl c.commit.result (c.commit.ensures (usual rules) h.history h.stands)

pub returns-2 : goal.returns-2
returns-2 c = λ rules ts passed h. commits c.ledgers_tell_histories.ensures c.ledgers_tell_ops.ensures.one rules ts 0 passed c.args.store.now h c.commit.new.self refl c.commit.result (c.commit.ensures (usual rules) h.history h.stands)
