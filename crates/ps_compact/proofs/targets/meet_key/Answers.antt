use Rattle.std.proofs.Common.{◌≡◌, None, rules}
use Rattle.ps_compact.specs.Meeting.{id_met}
use Rattle.ps_compact.proofs.Keys.{met_more}
use Rattle.ps_compact.proofs.targets.meet_key.Goals as goal

pub returns-clause-met : goal.returns-clause-met
returns-clause-met c = λ other.
    let none : id_met c.args.met.now c.args.key.now ≡ None = search rules in
    met_more (id_met c.args.met.now) c.args.key.now other c.args.id (id_met c.insert.new.self other) none
    (c.in_ok-insert.ensures.updates.0 (record c.args.key { now = other }))
