use Rattle.std.proofs.Common.{refl}
use Rattle.ps_session.proofs.Names.{none_rise}
use Rattle.ps_session.proofs.sessions.Session.begin.Goals as goal

pub invariant_of-result : goal.invariant_of-result
invariant_of-result c = rw (c.nothing_taken.ensures, c.new.ensures.items) (record { rise = none_rise; beside = refl; done = refl })
