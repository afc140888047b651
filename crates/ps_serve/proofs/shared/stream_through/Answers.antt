use Rattle.std.proofs.Common.{List, length, sym, subst}
use Rattle.ps_lock.specs.Words.{seen_by}
use Rattle.ps_lock.proofs.Prefixes.{prefix_length}
use Rattle.ps_queries.specs.declared.askers.Asker.{Asker}
use Rattle.ps_workers.specs.Sharing.{fixed_of}
use Rattle.ps_serve.specs.declared.outcomes.Outcome.{Outcome}
use Rattle.ps_serve.specs.declared.outcomes.Served.{Served}
use Rattle.ps_serve.specs.Readers.{seen}
use Rattle.ps_serve.specs.SharedAnswers.{StreamsAt}
use Rattle.ps_serve.proofs.shared.stream_through.Goals as goal

pub returns-clause-streams : goal.returns-clause-streams
returns-clause-streams g c =
    let fixed = fixed_of c.args.desk.now.lock.now in
    let low = length (seen_by c.args.seat) in
    let history = seen c.stream_from-reader.result.0 in
    let may_give = g.C.Clock.may_give c.args.terms.now.clock.now in
    let old = g.K.Sink.taken c.args.to.now in
    let new = g.K.Sink.taken c.stream_from-reader.new.to in
    let before = g.K.Sink.faults c.args.to.now in
    let now = g.K.Sink.faults c.stream_from-reader.new.to in
    let outcome : List Served → Outcome = λ served. record { status = c.stream_from-reader.result.1.0; end = c.stream_from-reader.result.1.1; served = served } in
    let later = prefix_length (seen_by c.args.seat) (seen c.open_reader-reader.result) c.open_reader-reader.ensures.saw in
    let said = c.stream_from-reader.ensures.streams c.args.request.positions low later c.begin.ensures.state in
    let own =
    subst (λ (a : Asker). StreamsAt fixed low history may_give c.args.terms.now.until_drained a c.args.request.positions c.args.terms.now.exp old new before now
    (outcome c.stream_from-reader.new.stream.served.items)) c.begin.ensures.asker said in
    subst (λ (xs : List Served). StreamsAt fixed low history may_give c.args.terms.now.until_drained c.args.request.asker c.args.request.positions c.args.terms.now.exp old new before now
    (outcome xs)) (sym c.from_vec.ensures) own
