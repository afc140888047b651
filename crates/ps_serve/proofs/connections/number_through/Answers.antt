use Rattle.std.proofs.Common.{ℕ, sym, subst}
use Rattle.ps_workers.specs.Sharing.{fixed_of}
use Rattle.ps_serve.specs.declared.ends.End.{End}
use Rattle.ps_serve.specs.Changing.{TellsNumber}
use Rattle.ps_serve.proofs.Adding.{numbers_so}
use Rattle.ps_serve.proofs.connections.number_through.Goals as goal

pub returns-clause-answers : goal.returns-clause-answers
returns-clause-answers g c =
    let turn = c.number_in_turn-seat.ensures.turn in
    let made = c.number_in_turn-seat.result.1 in
    let old = g.K.Sink.taken c.args.to.now in
    let new = g.K.Sink.taken c.tell_made-answered.new.to in
    let before = g.K.Sink.faults c.args.to.now in
    let now = g.K.Sink.faults c.tell_made-answered.new.to in
    record {
      made = made;
      makes = numbers_so c.places_are_fronts.ensures.stay c.places_are_fronts.ensures.whole (fixed_of c.args.desk.now.lock.now) turn.0 c.args.seat c.number_in_turn-seat.result.0
          c.args.user.now c.args.client.now made turn.1;
      tells = subst (λ (e : End). TellsNumber made old new before now c.outcome_of.result.status e) (sym c.outcome_of.ensures.ends)
          (subst (λ (n : ℕ). TellsNumber made old new before now n c.tell_made-answered.result.1) (sym c.outcome_of.ensures.status) c.tell_made-answered.ensures.tells);
      none = c.outcome_of.ensures.none;
    }
