-- Keys that are tested equal are equal.
use Rattle.std.proofs.Common.{◌≡◌, Bool, true, false, ◌&&◌, refl}
use Rattle.std.proofs.lemmas.Bool.{and_parts}
use Rattle.std.proofs.lemmas.Slice.Eq.{bytes_eq-Decides}
use Rattle.std.specs.Prelude.{bytes_eq}
use Rattle.std.specs.Cmp.Lexicographic.{nat_list_eq_equiv}
use Rattle.ps_bucket_log.specs.declared.ops.Key.{Key}
use Rattle.ps_bucket_log.specs.Ops.{same_key}
use Rattle.ps_client_log.specs.Images.{key_eq}

and_assoc : (x y z : Bool) → (x && (y && z)) ≡ ((x && y) && z)
and_assoc true y z = refl
and_assoc false y z = refl

pub key_eq-same : (a b : Key) → key_eq a b ≡ same_key a b
key_eq-same a b = and_assoc (bytes_eq a.kind b.kind) (bytes_eq a.id b.id) (bytes_eq a.subkey b.subkey)

pub key_eq-same_key : (a b : Key) → key_eq a b ≡ same_key b a
key_eq-same_key a b =
    rw (nat_list_eq_equiv.symm a.kind b.kind, nat_list_eq_equiv.symm a.id b.id, nat_list_eq_equiv.symm a.subkey b.subkey)
    (and_assoc (bytes_eq b.kind a.kind) (bytes_eq b.id a.id) (bytes_eq b.subkey a.subkey))

pub same_key-true : (a b : Key) → same_key a b ≡ true → a ≡ b
same_key-true a b same =
    let parts = and_parts (bytes_eq a.kind b.kind && bytes_eq a.id b.id) (bytes_eq a.subkey b.subkey) same in
    let front = and_parts (bytes_eq a.kind b.kind) (bytes_eq a.id b.id) parts.0 in
    let kind : a.kind ≡ b.kind = (bytes_eq-Decides a.kind b.kind).0 front.0 in
    let id : a.id ≡ b.id = (bytes_eq-Decides a.id b.id).0 front.1 in
    let subkey : a.subkey ≡ b.subkey = (bytes_eq-Decides a.subkey b.subkey).0 parts.1 in
    λ i. record { kind = kind i; id = id i; subkey = subkey i }
