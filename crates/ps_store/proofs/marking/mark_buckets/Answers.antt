use Rattle.std.proofs.Common.{ℕ, List, length, sym, ap, ◌∙◌}
use Rattle.std.specs.Prelude.{◌==◌}
use Rattle.ps_store.proofs.MarksIn.{nothing, marked_none}
use Rattle.ps_store.proofs.marking.mark_buckets.Goals as goal

pub returns-then-is_empty : goal.returns-then-is_empty
returns-then-is_empty c = marked_none c.args.mark.now c.args.entered.items (nothing c.args.mark.now (ap (λ (bytes : List ℕ). length bytes == 0) (sym c.bytes.ensures.value) ∙ sym c.is_empty.ensures ∙ c.if-is_empty.true))
