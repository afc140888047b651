use Rattle.std.proofs.Common.{take}
use Rattle.outside_tests.proofs.Echoing.{echo_of}
use Rattle.outside_tests.proofs.echoes.send_back.Goals as goal

-- what was sent is what was handed out
pub returns-clause-echo : goal.returns-clause-echo
returns-clause-echo g c = λ n is.
    let S = g.S.Source in
    let K = g.K.Sink in
    let from = c.args.from.now in
    let to = c.args.to.now in
    let from_then = c.pull-count.new.from in
    let to_then = c.send.new.to in
    let bytes = take c.pull-count.result c.pull-count.new.into in
    let sent = c.send.ensures.sent in
    echo_of (S.number from) (S.number from_then) n (S.faults from) (S.faults from_then) (K.faults to) (K.faults to_then) (S.input from) (S.input from_then) (K.taken to) (K.taken to_then) bytes sent.0 sent.1
    c.pull-count.ensures.handed sent.2 sent.3 sent.4 is c.pull-count.ensures.number
