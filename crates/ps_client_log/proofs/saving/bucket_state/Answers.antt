use Rattle.std.proofs.Common.{◌≡◌, ◌+◌, ◌%◌, ◌^◌, List, sym, ap, subst, ◌∙◌}
use Rattle.std.specs.List.{IsDistinct}
use Rattle.std.specs.Prelude.{map}
use Rattle.std.specs.Map.{keys_of}
use Rattle.ps_bucket_log.specs.Ops.{same_key}
use Rattle.ps_client_log.specs.declared.states.Held.{Held}
use Rattle.ps_client_log.specs.Kept.{held_in, held_sum}
use Rattle.ps_client_log.specs.Images.{key_eq}
use Rattle.ps_client_log.proofs.Listings.{listed-held, listed-distinct, made_up}
use Rattle.ps_client_log.proofs.saving.bucket_state.Goals as goal

pub returns : goal.returns
returns c =
    let image = c.args.image.now in
    let unique : IsDistinct key_eq (keys_of image.held.entries) = c.as_slice-pairs.ensures.unique in
    let sum : c.sum_of_held-sum.result.0 ≡ held_sum c.in_ok-held.held % 2 ^ 32 =
    c.sum_of_held-sum.ensures ∙ ap (λ (entries : List Held). held_sum entries % 2 ^ 32) c.as_slice.ensures in
    let total : (c.without-added.result.0 + held_sum c.in_ok-held.held) % 2 ^ 32 ≡ image.total.0 =
    made_up c.without-added.result.0 c.sum_of_held-sum.result.0 (held_sum c.in_ok-held.held) image.total.0 c.without-added.ensures sum in
    record {
      named = c.in_ok-copy.ensures;
      kept = λ i. record {
        position = image.position.0;
        total = total i;
        held = λ key. (ap (λ (entries : List Held). held_in entries key) c.in_ok-held.ensures ∙ listed-held key image.held.entries unique) i;
      };
      keys = subst (λ (entries : List Held). IsDistinct same_key (map (λ (held : Held). held.key) entries)) (sym c.in_ok-held.ensures) (listed-distinct image.held.entries unique);
    }
