use Rattle.std.proofs.Common.{◌≡◌, ◌∷◌, ℕ, List, [], false, true, arith, ◌∙◌}
use Rattle.ps_data.specs.declared.values.Value.{Value}
use Rattle.ps_definitions.specs.Buckets.{bucket_name_of}
use Rattle.ps_bucket_eval.proofs.Steps.{named_more, named_past}
use Rattle.ps_bucket_eval.proofs.Fitting.{fits_within, fits_past, named_alone}
use Rattle.ps_bucket_eval.proofs.placing.name_each.Goals as goal

pub returns-then-not-branch : goal.returns-then-not-branch
returns-then-not-branch c =
    let f : Value → List (List ℕ) = λ value. bucket_name_of c.args.definition.now (value ∷ []) ∷ [] in
    let no : c.in_ok-name_vector.field-0 ≡ false = grind (arith, c.if-not-branch.true) in
    named_past f c.args.found.now.keys c.values.found.keys c.args.values.now c.values.value-index c.value-item.result c.args.room c.values-test.true c.value-item.is c.values.invariant.named
    (fits_past c.args.room c.values.found.keys c.name_vector.new.found.keys (f c.value-item.result) c.in_ok-name_vector.field-0 no
    (named_alone c.args.definition.now c.args.room c.values.found.keys c.name_vector.new.found.keys c.from_ref.result.now c.value-item.result c.in_ok-name_vector.field-0 c.from_ref.ensures.value c.in_ok-name_vector.ensures))

pub values-preserved : goal.values-preserved
values-preserved c =
    let f : Value → List (List ℕ) = λ value. bucket_name_of c.args.definition.now (value ∷ []) ∷ [] in
    let yes : c.in_ok-name_vector.field-0 ≡ true = grind (arith, c.if-not-branch.false) in
    let h = fits_within c.args.room c.values.found.keys c.name_vector.new.found.keys (f c.value-item.result) c.in_ok-name_vector.field-0 yes
    (named_alone c.args.definition.now c.args.room c.values.found.keys c.name_vector.new.found.keys c.from_ref.result.now c.value-item.result c.in_ok-name_vector.field-0 c.from_ref.ensures.value c.in_ok-name_vector.ensures) in
    record {
      named = h.0 ∙ named_more f c.args.found.now.keys c.values.found.keys c.args.values.now c.values.value-index c.value-item.result c.values-test.true c.value-item.is c.values.invariant.named;
      within = h.1;
    }
