use Rattle.std.proofs.Common.{◌+◌, ◌-◌, ◌*◌, ◌<◌, get_or, drop, arith}
use Rattle.std.proofs.lemmas.Bool.Decides.{nat_tests}
use Rattle.ps_data.specs.Numbers.{greatest}
use Rattle.ps_sql.specs.Words.{decimal_after}
use Rattle.ps_sql.proofs.Decimals.{decimal_after_grows, decimal_after-drop}
use Rattle.ps_sql.proofs.scans.decimal_value.Goals as goal

pub returns-then-value-digit : goal.returns-then-value-digit
returns-then-value-digit c =
    let ds = c.args.digits.now in
    let i = c.value.b-index in
    let step = decimal_after-drop c.value.value ds i 0 (omega arith) in
    let grows = decimal_after_grows (c.value.value * 10 + (get_or ds i 0 - 48)) (drop (i + 1) ds) in
    let more : greatest < decimal_after 0 ds = grind (arith, step, grows) in
    grind (arith, nat_tests, more)
