use Rattle.std.proofs.Common.{List, ◌++◌, ap, subst, ◌∙◌}
use Rattle.std.proofs.lemmas.List.{append-nil}
use Rattle.ps_store.specs.declared.events.Event.{Event}
use Rattle.ps_session.specs.Kept.{state_of}
use Rattle.ps_streams.specs.Turning.{TurnsSo}
use Rattle.ps_streams.proofs.driving.take_turn_of.Goals as goal

pub returns-clause-turns : goal.returns-clause-turns
returns-clause-turns c = λ fixed history at serves way.
    let t = c.take_turn.ensures.turns fixed history at serves way in
    subst (λ (events : List Event). TurnsSo fixed events c.args.session.now.asker at (state_of c.args.session.now) (state_of c.take_turn.new.session) c.take_turn.result)
    (ap (λ (more : List Event). history ++ more) t.came ∙ append-nil history) t.turns
