use Rattle.std.proofs.Common.{ap, sym, ◌∙◌, true, cond, None, Some, arith}
use Rattle.std.specs.Prelude.{if◌then◌else◌}
use Rattle.std.proofs.lemmas.Grind.{common_steps}
use Rattle.ps_definitions.specs.Names.{has_repeated, output_names, is_in}
use Rattle.ps_rules.proofs.NameLaws.{repeated_more, repeated_found}
use Rattle.ps_rules.proofs.checks.distinct_names.Goals as goal

pub returns-then-has : goal.returns-then-has
returns-then-has c =
    let outputs = c.args.outputs.now in
    let found = sym (ap (is_in c.output-item.result.name) c.outputs.invariant.named) ∙ sym c.has.ensures ∙ c.if-has.true in
    let repeats = repeated_found outputs c.outputs.output-index c.output-item.result c.outputs-test.true (sym c.output-item.is) found in
    ap (λ b. if b then None else Some (output_names outputs)) (sym repeats)

pub outputs-preserved : goal.outputs-preserved
outputs-preserved c = record {
  named = grind (arith, common_steps);
  differ = ap has_repeated c.in_ok-names.ensures ∙ repeated_more c.outputs.names c.output-item.result.name
      ∙ ap (λ b. cond b true (has_repeated c.outputs.names)) (sym c.has.ensures ∙ c.if-has.false) ∙ c.outputs.invariant.differ;
}
