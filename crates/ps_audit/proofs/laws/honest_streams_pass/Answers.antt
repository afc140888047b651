use Rattle.ps_audit.proofs.Passing.{passes_all}
use Rattle.ps_audit.proofs.laws.honest_streams_pass.Goals as goal

pub returns : goal.returns
returns c =
    passes_all c.sessions_keep_clients_right.ensures.meets c.takes_rise.ensures.lines c.clients_are_led.ensures.empty c.courses_are_lawful.ensures
    c.ledgers_tell_events.ensures.feeds c.ledgers_tell_ops.ensures.ops c.ledgers_tell_ops.ensures.one c.ledgers_tell_reach.ensures
