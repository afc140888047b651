use Rattle.std.proofs.Common.{ap, ◌∙◌, ◌++◌, ◌∷◌, [], List, ℕ}
use Rattle.ps_rules.proofs.NameLaws.{still_in}
use Rattle.ps_rules.proofs.name_sets.NameSet.with.Goals as goal

pub invariant_of-result : goal.invariant_of-result
invariant_of-result c =
    still_in c.self.inside.sorted c.insert.new.self c.in_ok-copy.field-0 c.self.inside.names c.push.new.self c.args.name.now
    c.in_ok-insert.ensures.updates c.self.invariant c.in_ok-copy.ensures
    (c.in_ok-push.ensures.ok ∙ ap (λ (n : List ℕ). c.self.inside.names ++ n ∷ []) c.in_ok-copy-2.ensures)
