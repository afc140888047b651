use Rattle.std.proofs.Common.{◌≡◌, ℕ, List, [], ◌∷◌, ◌++◌, Option, Some, None, Bor, refl, ap, ◌∙◌}
use Rattle.std.specs.Prelude.{not, is_some}
use Rattle.std.specs.Option.{option_copied}
use Rattle.ps_token.specs.declared.key_lists.Key.{Key}
use Rattle.ps_token.specs.KeyLists.{are_distinct}
use Rattle.ps_token.proofs.KeyLaws.{found_twice}
use Rattle.ps_token.proofs.key_lists.Keys.has_kid_of.Goals as goal

copied : (o : Option (Bor ℕ)) → is_some o ≡ is_some (option_copied o)
copied None = refl
copied (Some x) = refl

pub returns : goal.returns
returns c =
    c.is_some.ensures ∙ copied c.get.result ∙ ap is_some c.get.ensures.value
    ∙ found_twice c.self.inside.places c.self.inside.keys c.args.key.now c.self.invariant
    ∙ ap (λ (keys : List Key). not (are_distinct (keys ++ c.args.key.now ∷ []))) c.self.view_is
