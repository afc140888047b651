-- What a map of entries holds of each key, after an entry is put in or taken out.
use Rattle.std.proofs.Common.{◌≡◌, Bool, true, false, cond, Some, None, refl, ap}
use Rattle.std.specs.Prelude.{option_map}
use Rattle.indexmap.specs.IndexMap.{IndexMap, get}
use Rattle.ps_checksum.specs.declared.sums.Sum.{Sum}
use Rattle.ps_bucket_log.specs.declared.ops.Key.{Key}
use Rattle.ps_bucket_log.specs.declared.ops.Op.TheVariants.{Put, Remove}
use Rattle.ps_bucket_log.specs.Ops.{same_key}
use Rattle.ps_bucket_log.specs.Buckets.{held_after}
use Rattle.ps_data.specs.declared.ids.OpId.{OpId}
use Rattle.ps_client_log.specs.declared.images.Entry.{Entry}
use Rattle.ps_client_log.specs.Images.{key_eq, put_at}
use Rattle.ps_client_log.proofs.Keys.{key_eq-same_key, same_key-true}

module _ {S : Type 0} (m n : IndexMap Key Entry S) (key : Key) where
  pub held-insert : (entry : Entry) → ((q : Key) → get key_eq n q ≡ cond (key_eq key q) (Some entry) (get key_eq m q))
      → (q : Key) → option_map (put_at q) (get key_eq n q) ≡ held_after q (option_map (put_at q) (get key_eq m q)) (Put entry.id key entry.content entry.sum)
  held-insert entry updates q =
      rw (updates q, key_eq-same_key key q) (by (same_key q key) refl)
    where
      by : (b : Bool) → same_key q key ≡ b
          → option_map (put_at q) (cond b (Some entry) (get key_eq m q)) ≡ cond b (Some (Put entry.id key entry.content entry.sum)) (option_map (put_at q) (get key_eq m q))
      by true same = ap (λ k. Some (Put entry.id k entry.content entry.sum)) (same_key-true q key same)
      by false apart = refl

  pub held-remove : (id : OpId) (sum : Sum) → ((q : Key) → get key_eq n q ≡ cond (key_eq key q) None (get key_eq m q))
      → (q : Key) → option_map (put_at q) (get key_eq n q) ≡ held_after q (option_map (put_at q) (get key_eq m q)) (Remove id key sum)
  held-remove id sum updates q =
      rw (updates q, key_eq-same_key key q) (by (same_key q key))
    where
      by : (b : Bool) → option_map (put_at q) (cond b None (get key_eq m q)) ≡ cond b None (option_map (put_at q) (get key_eq m q))
      by true = refl
      by false = refl
