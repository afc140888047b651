-- Each digit is put behind the number so far.
use Rattle.std.proofs.Common.{◌∙◌, sym, arith, rules, get_or, drop, ◌+◌}
use Rattle.std.proofs.lemmas.List.{at_drop_more, at_drop_all}
use Rattle.std.proofs.lemmas.Str.{digit_value_digit}
use Rattle.std.proofs.lemmas.Bool.Decides.{nat_tests}
use Rattle.ps_http.specs.Numbers.{number_after}
use Rattle.ps_http.proofs.Digits.{number_of-empty, number_of-after, number_after-bad, number_after-more, number_after-none}
use Rattle.ps_http.proofs.fields.number_of.Goals as goal

pub returns-then-is_empty : goal.returns-then-is_empty
returns-then-is_empty c = sym (number_of-empty c.args.digits.now (grind (arith, nat_tests)))

pub returns-then-not-is_ascii_digit : goal.returns-then-not-is_ascii_digit
returns-then-not-is_ascii_digit c =
    let digits = c.args.digits.now in
    let bad = sym c.is_ascii_digit.ensures.value ∙ c.if-not-is_ascii_digit.true in
    let here = at_drop_more (number_after c.digits.number) digits c.digits.digit-index 0 c.digits-test.true in
    sym (number_of-after digits (grind (arith, nat_tests)) ∙ c.digits.invariant.same ∙ here ∙ number_after-bad c.digits.number (get_or digits c.digits.digit-index 0) (drop (c.digits.digit-index + 1) digits) bad)

pub digits-preserved : goal.digits-preserved
digits-preserved c =
    let digits = c.args.digits.now in
    let good = sym c.is_ascii_digit.ensures.value ∙ c.if-not-is_ascii_digit.false in
    let here = at_drop_more (number_after c.digits.number) digits c.digits.digit-index 0 c.digits-test.true in
    let value = digit_value_digit (get_or digits c.digits.digit-index 0) (search rules) in
    record {
      same = c.digits.invariant.same ∙ here ∙ number_after-more c.digits.number (get_or digits c.digits.digit-index 0) c.saturating_add-number.result (drop (c.digits.digit-index + 1) digits) good (omega arith);
      fits = omega arith;
    }

pub returns : goal.returns
returns c =
    let digits = c.args.digits.now in
    let end = at_drop_all (number_after c.digits.number) digits c.digits.digit-index c.digits-test.false in
    sym (number_of-after digits (grind (arith, nat_tests)) ∙ c.digits.invariant.same ∙ end ∙ number_after-none c.digits.number c.digits.invariant.fits)
