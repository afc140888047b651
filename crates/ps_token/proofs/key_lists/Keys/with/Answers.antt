use Rattle.std.proofs.Common.{List, [], ◌∷◌, ◌++◌, ap, ◌∙◌}
use Rattle.ps_token.specs.declared.key_lists.Key.{Key}
use Rattle.ps_token.specs.KeyLists.{are_distinct}
use Rattle.ps_token.proofs.KeyLaws.{indexed_more}
use Rattle.ps_token.proofs.key_lists.Keys.with.Goals as goal

pub invariant_of-result : goal.invariant_of-result
invariant_of-result c =
    indexed_more c.self.inside.places c.insert.new.self c.in_ok-copy.field-0 c.len.result c.self.inside.keys c.push.new.self c.args.key
    c.in_ok-insert.ensures.updates c.self.invariant c.in_ok-copy.ensures c.len.ensures c.in_ok-push.ensures.ok
    (ap (λ (keys : List Key). are_distinct (keys ++ c.args.key ∷ [])) c.self.view_is ∙ c.requires)
