use Rattle.std.proofs.Common.{refl}
use Rattle.ps_core.proofs.StreamSteps.{cut_so, stream_of, streaming}
use Rattle.ps_core.proofs.streaming.cut.Goals as goal

pub returns-in-Ok : goal.returns-in-Ok
returns-in-Ok c = λ fixed play store it.
    cut_so fixed play c.args.name.now c.in-Ok.name store c.args.reader.now _ c.in-Some.field-0 it c.in-Some.is c.in-Ok.ensures refl refl refl

pub returns-in-Err : goal.returns-in-Err
returns-in-Err c = λ fixed play store it.
    let link = stream_of fixed play c.args.name.now store c.args.reader.now c.in-Some.field-0 it c.in-Some.is in
    streaming play c.args.name.now it.reader link.at link.session link.waiting it.named link.link_is
