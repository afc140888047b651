use Rattle.std.proofs.Common.{ℕ, sym, subst}
use Rattle.ps_workers.specs.Sharing.{fixed_of}
use Rattle.ps_serve.specs.declared.ends.End.{End}
use Rattle.ps_serve.specs.Changing.{TellsPosition}
use Rattle.ps_serve.proofs.Adding.{uploads_so}
use Rattle.ps_serve.proofs.connections.upload_through.Goals as goal

pub returns-clause-answers : goal.returns-clause-answers
returns-clause-answers g c =
    let turn = c.upload_in_turn-seat.ensures.turn in
    let fed = c.upload_in_turn-seat.result.1 in
    let old = g.K.Sink.taken c.args.to.now in
    let new = g.K.Sink.taken c.tell_fed-answered.new.to in
    let before = g.K.Sink.faults c.args.to.now in
    let now = g.K.Sink.faults c.tell_fed-answered.new.to in
    record {
      fed = fed;
      feeds = uploads_so c.places_are_fronts.ensures.stay c.places_are_fronts.ensures.whole (fixed_of c.args.desk.now.lock.now) turn.0 c.args.seat c.upload_in_turn-seat.result.0
          c.args.changes fed turn.1;
      tells = subst (λ (e : End). TellsPosition fed old new before now c.outcome_of.result.status e) (sym c.outcome_of.ensures.ends)
          (subst (λ (n : ℕ). TellsPosition fed old new before now n c.tell_fed-answered.result.1) (sym c.outcome_of.ensures.status) c.tell_fed-answered.ensures.tells);
      none = c.outcome_of.ensures.none;
    }
