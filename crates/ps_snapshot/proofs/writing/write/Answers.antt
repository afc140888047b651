use Rattle.std.proofs.Common.{[], ◌∷◌, ◌++◌}
use Rattle.ps_snapshot.proofs.writing.write.Goals as goal

pub write_fed-requires : goal.write_fed-requires
write_fed-requires c = let k = c.requires.written in (k.0, k.1 ++ c.args.transaction ∷ [], rw c.len-changes.ensures (c.in_ok-feed.ensures k.0 k.1 k.2 k.3))

pub returns : goal.returns
returns c = λ fixed fed h later. c.write_fed.ensures fixed (fed ++ c.args.transaction ∷ []) (rw c.len-changes.ensures (c.in_ok-feed.ensures fixed fed h later))
