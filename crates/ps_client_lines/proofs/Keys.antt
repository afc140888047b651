-- Keys that differ.
use Rattle.std.proofs.Common.{◌≡◌, Bool, true, false, ◌&&◌, List, refl, subst}
use Rattle.std.specs.Prelude.{bytes_eq}
use Rattle.std.specs.List.{IsDistinct}
use Rattle.ps_bucket_log.specs.declared.ops.Key.{Key}
use Rattle.ps_bucket_log.specs.Ops.{same_key}

and_again : (x y z : Bool) → (x && (y && z)) ≡ (x && y && z)
and_again true y z = refl
and_again false y z = refl

-- keys that differ in some part differ
pub keys_apart : (ks : List Key) → IsDistinct (λ a b. bytes_eq a.kind b.kind && (bytes_eq a.id b.id && bytes_eq a.subkey b.subkey)) ks → IsDistinct same_key ks
keys_apart ks h =
    subst (λ (eq : Key → Key → Bool). IsDistinct eq ks)
    (λ i a b. and_again (bytes_eq a.kind b.kind) (bytes_eq a.id b.id) (bytes_eq a.subkey b.subkey) i) h
