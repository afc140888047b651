use Rattle.std.proofs.Common.{List, ℕ, ap, ◌∙◌, sym, subst}
use Rattle.std.specs.List.{list_any}
use Rattle.ps_params.specs.Names.{AreTold}
use Rattle.ps_params.proofs.Ordered.{ordered_is}
use Rattle.ps_params.proofs.name_sets.NameSet.in_order.Goals as goal

pub returns-clause-names : goal.returns-clause-names
returns-clause-names c = λ same h. c.in_ok-names.ensures ∙ ordered_is c.self.inside.known.keys same c.len-ordered.ensures.ordered (λ test. ap (list_any test) c.self.view_is ∙ h test)

pub returns-clause-told : goal.returns-clause-told
returns-clause-told c = subst (λ (names : List (List ℕ)). AreTold names) (sym c.in_ok-names.ensures) c.self.invariant
