use Rattle.std.proofs.Common.{ap, sym, ◌∙◌, true, false, List}
use Rattle.std.specs.List.{list_any}
use Rattle.ps_queries.specs.declared.expressions.Expr.{Expr}
use Rattle.ps_definitions.specs.Branches.{finds}
use Rattle.ps_rules.proofs.Finds.{finds-Call}
use Rattle.ps_rules.proofs.walks.+asking.Goals as goal

pub asks_parameters-returns-in-Call : goal.asks_parameters-returns-in-Call
asks_parameters-returns-in-Call t c =
    c.any_asks_parameters.ensures ∙ ap (λ (es : List Expr). list_any (finds (λ name. false) true) es) c.as_slice.ensures
    ∙ sym (ap (finds (λ name. false) true) c.in-Call.is ∙ finds-Call (λ name. false) true c.in-Call.function c.in-Call.arguments)
