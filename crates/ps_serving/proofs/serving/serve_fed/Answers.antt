use Rattle.std.proofs.Common.{◌≡◌, ◌∙◌, ℕ, length, ap, sym, arith, subst}
use mathlib.Core.List.{IsPrefix}
use Rattle.ps_lock.specs.Words.{seen_by}
use Rattle.ps_store.specs.LedgerLaws.{fed_in}
use Rattle.ps_store.specs.declared.totals.Totals.{Totals}
use Rattle.ps_streams.specs.Serving.{IsValid}
use Rattle.ps_workers.specs.Sharing.{terms_of}
use Rattle.ps_serving.specs.Printing.{PrintsLine, totals_line}
use Rattle.ps_serving.specs.Serving.{DoorsAt, SinkAt, HasRun}
use Rattle.ps_serving.proofs.Closing.{fed_same}
use Rattle.ps_serving.proofs.Fronts.{prefix_trans}
use Rattle.ps_serving.proofs.Verdicts.{judged}
use Rattle.ps_serving.proofs.serving.serve_fed.Goals as goal

pub returns : goal.returns
returns g c =
    let terms = terms_of c.args.ground.now.lock.now in
    let fixed = terms.fixed in
    let start = seen_by c.args.seat in
    let saw = seen_by c.in_ok-seat.seat in
    let turn = c.totals_in_turn-seat.ensures.turn in
    let history = turn.0 in
    let knew : IsPrefix saw history = turn.1.looks.looks.knew in
    let wrote = c.in_ok-seat.ensures.wrote in
    let stands = turn.1.looks.stood.1.stands in
    let valid : IsValid fixed history = record { rules = stands.rules; numbers = stands.query_numbers; legal = stands.legal } in
    let doors : DoorsAt = record {
      opened = g.D.Doors.opened c.args.doors.now;
      coming = g.D.Doors.coming c.args.doors.now;
      closed = g.D.Doors.closed c.args.doors.now;
      faults = g.D.Doors.faults c.args.doors.now;
    } in
    let doors' : DoorsAt = record {
      opened = g.D.Doors.opened c.run.new.doors;
      coming = g.D.Doors.coming c.run.new.doors;
      closed = g.D.Doors.closed c.run.new.doors;
      faults = g.D.Doors.faults c.run.new.doors;
    } in
    let begins = prefix_trans start saw history c.in_ok-seat.ensures.saw knew in
    let run : HasRun terms start doors doors' = record {
      history = history;
      stood = turn.1.looks.stood;
      begins = begins;
      seen = wrote.seen;
      later = wrote.later;
      earlier = prefix_trans wrote.seen saw history wrote.earlier knew;
      alone = λ same.
          let taken = c.in_ok-seat.ensures.taken.opened_is in
          let none : c.in_ok-seat.ends.connections.connections ≡ 0 = omega (arith, same, taken) in
          let count : c.totals_in_turn-seat.result.2.transactions ≡ c.args.fed = c.in_ok-fed_by_connections.ensures none in
          let told : c.totals_in_turn-seat.result.2.transactions ≡ length (fed_in history) =
          ap (λ (t : Totals). t.transactions) turn.1.totals_are ∙ ap length (c.ledgers_tell_events.ensures.feeds fixed.rules history).fed in
          fed_same start history begins (sym told ∙ (count ∙ c.requires.fed));
    } in
    let out : SinkAt = record { taken = g.O.Sink.taken c.args.out.now; faults = g.O.Sink.faults c.args.out.now } in
    let out' : SinkAt = record { taken = g.O.Sink.taken c.print_totals-printed.new.out; faults = g.O.Sink.faults c.print_totals-printed.new.out } in
    let prints = subst (λ (t : Totals). PrintsLine (totals_line t) out.taken out'.taken out.faults out'.faults c.print_totals-printed.result) turn.1.totals_are c.print_totals-printed.ensures.prints in
    rw c.judge.ensures (judged terms c.args.next c.args.ground.now.site.now (g.C.Clock.may_give c.args.ground.now.tools.now.clock.now) start c.args.pace.most doors doors' out out' run
    c.print_totals-printed.result prints c.in_ok-seat.ends.connections (c.in_ok-seat.ensures.taken, c.in_ok-seat.ensures.served history knew valid) wrote.fed c.in_ok-seat.ends.compactor
    c.in_ok-seat.ends.writer wrote.ends)
