use Rattle.std.proofs.Common.{Err, refl, ap, ◌∙◌}
use Rattle.ps_core.proofs.StreamSteps.{is_stream, stream_of, streaming, too_many_so, turn_so}
use Rattle.ps_core.proofs.streaming.turn.Goals as goal

pub returns-in-Ok : goal.returns-in-Ok
returns-in-Ok c = λ fixed play name it.
    let link = stream_of fixed play name c.args.store.now c.args.reader.now c.in-Some.stream it c.in-Some.is in
    turn_so fixed play name c.args.store.now c.args.reader.now c.in-Some.stream it c.in-Some.is _ c.advance.new.stream c.in-Ok.effect
    (c.in-Ok.ensures fixed play it.reader.asker link.at link.session link.waiting (is_stream fixed play name c.args.store.now c.args.reader.now c.in-Some.stream it c.in-Some.is))
    refl refl refl

pub returns-in-Err-TooManyBuckets : goal.returns-in-Err-TooManyBuckets
returns-in-Err-TooManyBuckets c = λ fixed play name it.
    let link = stream_of fixed play name c.args.store.now c.args.reader.now c.in-Some.stream it c.in-Some.is in
    too_many_so fixed play name c.args.store.now c.args.reader.now c.in-Some.stream it c.in-Some.is _ c.in-Err-TooManyBuckets.count
    (rw (c.in-Err-TooManyBuckets.is ∙ ap Err c.in-Err-TooManyBuckets.field-0-is) at
    (c.advance.ensures fixed play it.reader.asker link.at link.session link.waiting (is_stream fixed play name c.args.store.now c.args.reader.now c.in-Some.stream it c.in-Some.is)))
    refl refl refl

pub returns-in-Err-Memory : goal.returns-in-Err-Memory
returns-in-Err-Memory c = λ fixed play name it.
    let link = stream_of fixed play name c.args.store.now c.args.reader.now c.in-Some.stream it c.in-Some.is in
    streaming play name it.reader link.at link.session link.waiting it.named link.link_is
