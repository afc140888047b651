use Rattle.ps_yaml.proofs.Names.{still_named}
use Rattle.ps_yaml.proofs.open.OpenMap.with.Goals as goal

pub invariant_of-result : goal.invariant_of-result
invariant_of-result c =
    still_named c.self.inside.names c.insert.new.self c.in_ok-name.name c.self.inside.pairs c.push.new.self c.args.pair
    c.in_ok-insert.ensures.updates c.self.invariant c.in_ok-name.ensures c.in_ok-push.ensures.ok
