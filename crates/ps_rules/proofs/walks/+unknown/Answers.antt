use Rattle.std.proofs.Common.{ap, sym, ◌∙◌, false, List}
use Rattle.std.specs.Prelude.{not}
use Rattle.std.specs.List.{list_any}
use Rattle.ps_queries.specs.declared.expressions.Expr.{Expr}
use Rattle.ps_definitions.specs.Names.{is_in}
use Rattle.ps_definitions.specs.Branches.{finds}
use Rattle.ps_rules.proofs.Finds.{finds-Call}
use Rattle.ps_rules.proofs.walks.+unknown.Goals as goal

pub has_unknown-returns-in-Call : goal.has_unknown-returns-in-Call
has_unknown-returns-in-Call t c =
    c.any_has_unknown.ensures ∙ ap (λ (es : List Expr). list_any (finds (λ name. not (is_in name c.args.names.now)) false) es) c.as_slice.ensures
    ∙ sym (ap (finds (λ name. not (is_in name c.args.names.now)) false) c.in-Call.is ∙ finds-Call (λ name. not (is_in name c.args.names.now)) false c.in-Call.function c.in-Call.arguments)
