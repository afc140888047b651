use Rattle.ps_core.proofs.WorldSteps.{has_begun}
use Rattle.ps_core.proofs.worlds.add.Goals as goal

pub returns : goal.returns
returns c =
    has_begun c.args.readers.now c.insert.new.self c.args.name.now c.in_ok-key.key c.in_ok-name.name c.args.asker.now c.in_ok-reader.reader c.in_ok-key.ensures c.in_ok-name.ensures
    c.in_ok-insert.ensures.updates.0 c.in_ok-reader.ensures
