-- The pair that comes next is the first that is left.
use Rattle.std.proofs.Common.{◌≡◌, ◌∙◌, sym, ap, true, false, Some}
use Rattle.std.specs.Prelude.{bytes_eq}
use Rattle.std.specs.Cow.{cow_str_bytes}
use Rattle.ps_http.proofs.Pairs.{value_of-found, value_of-passed}
use Rattle.ps_http.proofs.queries.query_value.Goals as goal

pub returns-then-eq : goal.returns-then-eq
returns-then-eq c =
    let step = rw c.in_ok-found.was at c.in-Some.ensures.steps.0 in
    let same : bytes_eq (cow_str_bytes c.in_ok-found.found) c.args.name.now ≡ true = cc in
    let found = value_of-found c.args.name.now _ _ step.0 step.1 _ _ step.2 step.3.0 step.3.1 same in
    let made : c.in_ok-from_str.field-0 ≡ cow_str_bytes c.in_ok-found.value = c.in_ok-from_str.ensures ∙ c.as_str-then-eq.ensures.value in
    sym (c.pairs.invariant ∙ found ∙ ap (λ v. Some v) (sym made))

pub pairs-preserved-else-eq : goal.pairs-preserved-else-eq
pairs-preserved-else-eq c =
    let step = rw c.in_ok-found.was at c.in-Some.ensures.steps.0 in
    let other : bytes_eq (cow_str_bytes c.in_ok-found.found) c.args.name.now ≡ false = cc in
    c.pairs.invariant ∙ value_of-passed c.args.name.now _ _ step.0 step.1 _ step.2 step.3.0 other

pub pairs-preserved : goal.pairs-preserved
pairs-preserved c =
    let step = rw c.in_ok-found.was at c.in-Some.ensures.steps.0 in
    let other : bytes_eq (cow_str_bytes c.in_ok-found.found) c.args.name.now ≡ false = cc in
    c.pairs.invariant ∙ value_of-passed c.args.name.now _ _ step.0 step.1 _ step.2 step.3.0 other
