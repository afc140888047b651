-- No number of a sound state is past the greatest, in whatever row it stands.
use Rattle.std.proofs.Common.{◌≡◌, ◌≤◌, ℕ, Bool, true, false, cond, List, [], ◌∷◌, ◌++◌, map, Option, Some, None, IfSome, fold, refl, ap, subst, ◌∙◌}
use Rattle.std.specs.Prelude.{bytes_eq}
use Rattle.std.specs.List.{AllByRecursion, IsDistinct}
use Rattle.std.specs.Cmp.Lexicographic.{nat_list_eq_equiv}
use Rattle.std.proofs.lemmas.List.Elements.{recursion_from_All}
use Rattle.std.proofs.lemmas.Map.Keys.{IsDistinct-head, IsDistinct-tail}
use Rattle.ps_data.specs.Numbers.{greatest}
use Rattle.ps_bucket_log.specs.declared.ops.Key.{Key}
use Rattle.ps_bucket_log.specs.Ops.{id_of, same_key}
use Rattle.ps_client_log.specs.declared.states.State.{State}
use Rattle.ps_client_log.specs.declared.states.BucketState.{BucketState}
use Rattle.ps_client_log.specs.declared.states.Held.{Held}
use Rattle.ps_client_log.specs.Kept.{put_of, bucket_kept}
use Rattle.ps_client_log.specs.Soundness.{IsSoundBucket, IsSoundState}
use Rattle.ps_client_sqlite.proofs.Naming.{texts_itself, keys_itself}
use Rattle.ps_client_sqlite.specs.Writing.{bucket_pair, entry_pair, entry_pairs}

module _ {X K B : Type 0} (key : X → K) (give : X → B) (same : X → K → Bool) (distinct : K → K → Bool) (itself : (x : X) → same x (key x) ≡ true)
    (apart : (x y : X) → distinct (key x) (key y) ≡ false → same y (key x) ≡ false) where
  abbrev step : K → Option B → X → Option B
  step at found x = cond (same x at) (Some (give x)) found

  none_later : (x : X) (xs : List X) (found : Option B) → AllByRecursion (λ k. distinct (key x) k ≡ false) (map key xs) → fold (step (key x)) found xs ≡ found
  none_later x [] found all = refl
  none_later x (y ∷ xs) found all = ap (λ b. fold (step (key x)) (cond b (Some (give y)) found) xs) (apart x y all.0) ∙ none_later x xs found all.1

  -- where no key stands twice, each is found
  each_found : (xs : List X) (seen : K → Option B) → IsDistinct distinct (map key xs) → AllByRecursion (λ x. fold (step (key x)) (seen (key x)) xs ≡ Some (give x)) xs
  each_found [] seen once = tt
  each_found (x ∷ xs) seen once = (
    ap (λ b. fold (step (key x)) (cond b (Some (give x)) (seen (key x))) xs) (itself x) ∙ none_later x xs (Some (give x)) (IsDistinct-head distinct (key x) (map key xs) once),
    each_found xs (λ at. step at (seen at) x) (IsDistinct-tail distinct (key x) (map key xs) once),
  )

  -- what holds of all that is found holds of each
  pub each_so : (P : B → Type 0) (xs : List X) → IsDistinct distinct (map key xs) → ((at : K) → IfSome (fold (step at) None xs) P) → AllByRecursion (λ x. P (give x)) xs
  each_so P xs once all = over xs (each_found xs (λ _. None) once)
    where
      over : (ys : List X) → AllByRecursion (λ x. fold (step (key x)) None xs ≡ Some (give x)) ys → AllByRecursion (λ x. P (give x)) ys
      over [] found = tt
      over (y ∷ ys) found = (subst (λ o. IfSome o P) found.0 (all (key y)), over ys found.1)

name_apart : (x y : BucketState) → bytes_eq x.name y.name ≡ false → bytes_eq y.name x.name ≡ false
name_apart x y apart = nat_list_eq_equiv.symm y.name x.name ∙ apart

sound_each : (state : State) → IsSoundState state → AllByRecursion (λ bucket. IsSoundBucket (bucket_kept bucket)) state.buckets
sound_each state sound =
    each_so (λ (b : BucketState). b.name) bucket_kept (λ (b : BucketState) (name : List ℕ). bytes_eq b.name name) bytes_eq (λ b. texts_itself b.name) name_apart
    IsSoundBucket state.buckets sound.names sound.kept.buckets

pub positions_within : (buckets : List BucketState) → AllByRecursion (λ bucket. IsSoundBucket (bucket_kept bucket)) buckets → AllByRecursion (λ p. p.1.0 ≤ greatest) (map bucket_pair buckets)
positions_within [] all = tt
positions_within (b ∷ buckets) all = (all.0.position, positions_within buckets all.1)

held_within : (held : List Held) → IsDistinct same_key (map (λ h. h.key) held) → ((key : Key) → IfSome (fold (λ (found : _) (h : Held). cond (same_key key h.key) (Some (put_of h)) found) None held) (λ op. id_of op ≤ greatest))
    → AllByRecursion (λ h. h.id.0 ≤ greatest) held
held_within held once all =
    each_so (λ (h : Held). h.key) put_of (λ (h : Held) (key : Key). same_key key h.key) same_key (λ h. keys_itself h.key) (λ x y apart. apart) (λ op. id_of op ≤ greatest) held once all

pub ids_within : (buckets : List BucketState) → AllByRecursion (λ bucket. IsSoundBucket (bucket_kept bucket)) buckets → AllByRecursion (λ bucket. IsDistinct same_key (map (λ held. held.key) bucket.held)) buckets
    → AllByRecursion (λ p. p.1.id.0 ≤ greatest) (entry_pairs buckets)
ids_within [] all once = tt
ids_within (b ∷ buckets) all once = before b.held (held_within b.held once.0 all.0.held) (ids_within buckets all.1 once.1)
  where
    before : (held : List Held) → AllByRecursion (λ h. h.id.0 ≤ greatest) held → AllByRecursion (λ p. p.1.id.0 ≤ greatest) (entry_pairs buckets)
        → AllByRecursion (λ p. p.1.id.0 ≤ greatest) (map (entry_pair b.name) held ++ entry_pairs buckets)
    before [] within later = later
    before (h ∷ held) within later = (within.0, before held within.1 later)

pub positions_of : (state : State) → IsSoundState state → AllByRecursion (λ p. p.1.0 ≤ greatest) (map bucket_pair state.buckets)
positions_of state sound = positions_within state.buckets (sound_each state sound)

pub ids_of : (state : State) → IsSoundState state → AllByRecursion (λ p. p.1.id.0 ≤ greatest) (entry_pairs state.buckets)
ids_of state sound = ids_within state.buckets (sound_each state sound) (recursion_from_All (λ bucket. IsDistinct same_key (map (λ held. held.key) bucket.held)) state.buckets sound.keys)
