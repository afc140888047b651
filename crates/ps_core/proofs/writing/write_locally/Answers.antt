use Rattle.std.proofs.Common.{refl}
use Rattle.ps_core.proofs.Written.{wrote_locally}
use Rattle.ps_core.proofs.writing.write_locally.Goals as goal

pub returns-in-Ok : goal.returns-in-Ok
returns-in-Ok c = λ fixed play store it.
    wrote_locally fixed play c.args.name.now c.in_ok-name.name store c.args.reader.now _ c.args.change.now c.in_ok-change.change it c.requires c.in_ok-name.ensures c.in_ok-change.ensures refl refl c.in-Ok.ensures.ok
