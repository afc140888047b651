use Rattle.ps_serving.specs.Serving.{FilesAt, DoorsAt, SinkAt}
use Rattle.ps_serving.proofs.Statuses.{answers_fault, caused}
use Rattle.ps_serving.proofs.serving.run_serve.Goals as goal

pub returns-clause-answers : goal.returns-clause-answers
returns-clause-answers g c =
    let may_give = g.C.Clock.may_give c.args.clock.now in
    let words = c.args.words.now in
    let taken = c.in-Ok.ensures in
    let files : FilesAt = record { held = g.F.Files.held c.args.files.now; faults = g.F.Files.faults c.args.files.now } in
    let files' : FilesAt = record { held = g.F.Files.held c.serve.new.files; faults = g.F.Files.faults c.serve.new.files } in
    let doors : DoorsAt = record {
      opened = g.D.Doors.opened c.args.doors.now;
      coming = g.D.Doors.coming c.args.doors.now;
      closed = g.D.Doors.closed c.args.doors.now;
      faults = g.D.Doors.faults c.args.doors.now;
    } in
    let doors' : DoorsAt = record {
      opened = g.D.Doors.opened c.serve.new.doors;
      coming = g.D.Doors.coming c.serve.new.doors;
      closed = g.D.Doors.closed c.serve.new.doors;
      faults = g.D.Doors.faults c.serve.new.doors;
    } in
    let out : SinkAt = record { taken = g.O.Sink.taken c.args.out.now; faults = g.O.Sink.faults c.args.out.now } in
    let out' : SinkAt = record { taken = g.O.Sink.taken c.serve.new.out; faults = g.O.Sink.faults c.serve.new.out } in
    let fault = c.in-Err-serve.fault in
    let cause = caused may_give words files files' doors doors' out out' c.in-Ok.said taken fault c.in-Err-serve.ensures.serves in
    rw c.say_serve-in-Err-serve.ensures.is (answers_fault may_give words files files' doors doors' out out' fault cause (λ refused. absurd (refused taken.free)))

pub returns-clause-said : goal.returns-clause-said
returns-clause-said g c = λ some.
    let may_give = g.C.Clock.may_give c.args.clock.now in
    let words = c.args.words.now in
    let taken = c.in-Ok.ensures in
    let files : FilesAt = record { held = g.F.Files.held c.args.files.now; faults = g.F.Files.faults c.args.files.now } in
    let files' : FilesAt = record { held = g.F.Files.held c.serve.new.files; faults = g.F.Files.faults c.serve.new.files } in
    let doors : DoorsAt = record {
      opened = g.D.Doors.opened c.args.doors.now;
      coming = g.D.Doors.coming c.args.doors.now;
      closed = g.D.Doors.closed c.args.doors.now;
      faults = g.D.Doors.faults c.args.doors.now;
    } in
    let doors' : DoorsAt = record {
      opened = g.D.Doors.opened c.serve.new.doors;
      coming = g.D.Doors.coming c.serve.new.doors;
      closed = g.D.Doors.closed c.serve.new.doors;
      faults = g.D.Doors.faults c.serve.new.doors;
    } in
    let out : SinkAt = record { taken = g.O.Sink.taken c.args.out.now; faults = g.O.Sink.faults c.args.out.now } in
    let out' : SinkAt = record { taken = g.O.Sink.taken c.serve.new.out; faults = g.O.Sink.faults c.serve.new.out } in
    let fault = c.in-Err-serve.fault in
    record {
      fault = fault;
      cause = caused may_give words files files' doors doors' out out' c.in-Ok.said taken fault c.in-Err-serve.ensures.serves;
      names = c.in-Err-serve.ensures.missed;
      says = c.say_serve-in-Err-serve.ensures;
    }
