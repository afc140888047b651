use Rattle.std.proofs.Common.{◌≡◌, ℕ, ◌<◌, false, length, drop, sym, ap, subst, ◌∙◌}
use Rattle.ps_yaml.specs.Scalars.{is_line_end}
use Rattle.ps_yaml.specs.Trees.{value_offset}
use Rattle.ps_yaml.proofs.Offsets.{scalar_place}
use Rattle.ps_yaml.proofs.trees.+tree.Goals as goal

pub value_at-scalar_at-requires-clause-place : goal.value_at-scalar_at-requires-clause-place
value_at-scalar_at-requires-clause-place t c =
    let line = c.args.line.now in
    let after = c.past.ensures ∙ ap (drop c.value_offset-offset.result) c.text.ensures.value ∙ ap (λ (k : ℕ). drop k line.text) c.value_offset-offset.ensures.value in
    let more : is_line_end (drop (value_offset line) line.text) ≡ false = ap is_line_end (sym after) ∙ sym c.is_line_end.ensures ∙ c.if-is_line_end.false in
    subst (λ (k : ℕ). k < length line.text) (sym c.scalar_offset.ensures.value) (scalar_place line more)
