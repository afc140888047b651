use Rattle.std.proofs.Common.{◌≡◌, ◌++◌, ◌∷◌, ◌<◌, ℕ, List, [], true, false, length, drop, arith, ap, ◌∙◌, subst}
use Rattle.ps_data.specs.declared.values.Value.{Value}
use Rattle.ps_bucket_eval.specs.Solving.{inserted, names_from}
use Rattle.ps_bucket_eval.proofs.Fitting.{fits_within, fits_past, first_rest, popped, vectors_more, vectors_past}
use Rattle.ps_bucket_eval.proofs.placing.+name_vectors.Goals as goal

pub returns-then-not-fits-clause-named : goal.returns-then-not-fits-clause-named
returns-then-not-fits-clause-named t c =
    let lists = c.args.lists.now in
    let values = c.as_slice-value-items.result.now in
    let rest = drop 1 lists in
    let definition = c.args.definition.now in
    let chosen = c.args.chosen.now.items in
    let item = c.value-item.result in
    let whole : values ∷ rest ≡ lists = ap (λ (vs : List Value). vs ∷ drop 1 lists) (c.as_slice-value-items.ensures ∙ c.values-item.is) ∙ first_rest lists c.values-item.result c.in-len1-up.len_at_least in
    let no : c.in_ok-fits.fits ≡ false = grind (arith, c.if-not-fits.true) in
    let pushed : c.push.new.self.items ≡ chosen ++ item ∷ [] = c.in_ok-push.ensures.items ∙ (λ i. c.values.invariant.kept i ++ c.in_ok-copy.ensures i ∷ []) in
    let same : names_from definition c.push.new.self.items c.behind_first-rest.result.now ≡ names_from definition (chosen ++ item ∷ []) rest =
    ap (λ (vs : List Value). names_from definition vs c.behind_first-rest.result.now) pushed ∙ ap (names_from definition (chosen ++ item ∷ [])) c.behind_first-rest.ensures in
    let past = fits_past c.args.room c.values.found.keys c.name_vectors.new.found.keys (names_from definition c.push.new.self.items c.behind_first-rest.result.now) c.in_ok-fits.fits no c.in_ok-fits.ensures.named in
    subst (λ (ls : List (List Value)). c.args.room < length (inserted c.args.found.now.keys (names_from definition chosen ls))) whole
    (vectors_past definition chosen values rest c.args.room c.args.found.now.keys c.values.found.keys c.name_vectors.new.found.keys c.values.value-index item c.values-test.true c.value-item.is c.values.invariant.named
    (subst (λ (ns : List (List ℕ)). c.args.room < length (inserted c.values.found.keys ns)) same past))

pub values-preserved : goal.values-preserved
values-preserved t c =
    let lists = c.args.lists.now in
    let values = c.as_slice-value-items.result.now in
    let rest = drop 1 lists in
    let definition = c.args.definition.now in
    let chosen = c.args.chosen.now.items in
    let item = c.value-item.result in
    let yes : c.in_ok-fits.fits ≡ true = grind (arith, c.if-not-fits.false) in
    let pushed : c.push.new.self.items ≡ chosen ++ item ∷ [] = c.in_ok-push.ensures.items ∙ (λ i. c.values.invariant.kept i ++ c.in_ok-copy.ensures i ∷ []) in
    let same : names_from definition c.push.new.self.items c.behind_first-rest.result.now ≡ names_from definition (chosen ++ item ∷ []) rest =
    ap (λ (vs : List Value). names_from definition vs c.behind_first-rest.result.now) pushed ∙ ap (names_from definition (chosen ++ item ∷ [])) c.behind_first-rest.ensures in
    let w = fits_within c.args.room c.values.found.keys c.name_vectors.new.found.keys (names_from definition c.push.new.self.items c.behind_first-rest.result.now) c.in_ok-fits.fits yes c.in_ok-fits.ensures.named in
    record {
      kept = popped chosen c.name_vectors.new.chosen.items c.pop.new.self.items item c.name_vectors.new.chosen.len (c.in_ok-fits.ensures.kept ∙ pushed) c.name_vectors.new.chosen.ok.0 c.pop.ensures.rest;
      named = vectors_more definition chosen values rest c.args.room c.args.found.now.keys c.values.found.keys c.name_vectors.new.found.keys c.values.value-index item c.values-test.true c.value-item.is c.values.invariant.named
          (w.0 ∙ ap (inserted c.values.found.keys) same);
      within = w.1;
    }
