use Rattle.std.proofs.Common.{◌≡◌, ℕ, true, sym, ◌∙◌, ap, rules, cond, Some, None, Ok, Err, le-leb}
use Rattle.ps_data.specs.Numbers.{begins_plainly as begins_as_decimal}
use Rattle.ps_values.proofs.Decimals.{reads}
use Rattle.ps_values.proofs.numbers.read_decimal.Goals as goal

pub returns-then-number-le-GREATEST : goal.returns-then-number-le-GREATEST
returns-then-number-le-GREATEST c =
    let plain : begins_as_decimal c.args.text.now ≡ true = search rules in
    let known = reads {E = ℕ} c.args.text.now (Ok c.in-Ok.number) plain (rw c.as_str.ensures.value at c.in-Ok.ensures.value.0) in
    sym (known ∙ ap (λ b. cond b (Some c.in-Ok.number) None) (le-leb _ _ c.if-number-le-GREATEST.true))

pub returns-in-Err : goal.returns-in-Err
returns-in-Err c =
    let plain : begins_as_decimal c.args.text.now ≡ true = search rules in
    sym (reads c.args.text.now (Err c.in-Err.field-0) plain (rw c.as_str.ensures.value at c.in-Err.ensures.value.0))
