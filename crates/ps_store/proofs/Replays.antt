-- What is held of one key in one bucket after operations of all buckets.
use Rattle.std.proofs.Common.{◌≡◌, ℕ, ◌+◌, ◌<◌, ◌≤◌, Bool, true, false, cond, List, [], ◌∷◌, ◌++◌, length, length-append, map, Option, Some, None, refl, sym, ap, ◌∙◌, subst, arith, inl, inr}
use Rattle.std.specs.Prelude.{◌⊎◌, ◌&&◌, ◌||◌, not, fold, filter, bytes_eq}
use Rattle.std.specs.List.{list_any}
use Rattle.std.specs.Cmp.Lexicographic.{nat_list_eq_equiv}
use Rattle.std.proofs.lemmas.Bool.{and_parts, and_from, or_parts, or_from, false_from_ne_true, not_from_false}
use Rattle.std.proofs.lemmas.Slice.Eq.{bytes_eq-Decides}
use Rattle.ps_bucket_log.specs.declared.ops.Key.{Key}
use Rattle.ps_bucket_log.specs.declared.ops.Op.{Op}
use Rattle.ps_bucket_log.specs.Ops.{same_key}
use Rattle.ps_bucket_log.specs.Buckets.{Bucket, after, held_after}
use Rattle.ps_bucket_eval.specs.declared.placed.Placed.{Placed}
use Rattle.ps_store.specs.Originals.{Entered, removed, put, numbered, stays, leaving, written, in_bucket}
use Rattle.ps_data.proofs.Members.{Has, any_has, has_any, has_filter, from_filter}

-- ---- a bucket's operations among all

abbrev pub held_by : List ℕ → Key → Option Op → Entered → Option Op
held_by bucket key held e = cond (bytes_eq bucket e.bucket) (held_after key held e.op) held

abbrev pub held_over : List ℕ → Key → Option Op → List Entered → Option Op
held_over bucket key held [] = held
held_over bucket key held (e ∷ es) = held_over bucket key (held_by bucket key held e) es

pub held_over-append : (bucket : List ℕ) (key : Key) (held : Option Op) (xs ys : List Entered) → held_over bucket key held (xs ++ ys) ≡ held_over bucket key (held_over bucket key held xs) ys
held_over-append bucket key held [] ys = refl
held_over-append bucket key held (x ∷ xs) ys = held_over-append bucket key (held_by bucket key held x) xs ys

-- a reader of the bucket holds the same
pub reader_holds : (bucket : List ℕ) (key : Key) (state : Bucket) (es : List Entered) → (fold after state (in_bucket bucket es)).held key ≡ held_over bucket key (state.held key) es
reader_holds bucket key state [] = refl
reader_holds bucket key state (e ∷ es) =
    let rest = filter (λ (f : Entered). bytes_eq bucket f.bucket) es in
    elim (bytes_eq bucket e.bucket) as (λ b. (fold after state (map (λ (f : Entered). f.op) (cond b (e ∷ rest) rest))).held key ≡ held_over bucket key (cond b (held_after key (state.held key) e.op) (state.held key)) es) [
      | true ↦ reader_holds bucket key (after state e.op) es
      | false ↦ reader_holds bucket key state es
    ]

-- ---- equal keys

key_with : List ℕ → List ℕ → List ℕ → Key
key_with kind id subkey = record { kind = kind; id = id; subkey = subkey }

same_name : (a b : List ℕ) → bytes_eq a b ≡ true → a ≡ b
same_name a b = (bytes_eq-Decides a b).0

key_is : (a b : Key) → same_key a b ≡ true → a ≡ b
unfolding key_with
key_is a b same =
    let both = and_parts (bytes_eq a.kind b.kind && bytes_eq a.id b.id) (bytes_eq a.subkey b.subkey) same in
    let front = and_parts (bytes_eq a.kind b.kind) (bytes_eq a.id b.id) both.0 in
    ap (λ k. key_with k a.id a.subkey) (same_name a.kind b.kind front.0)
    ∙ ap (λ i. key_with b.kind i a.subkey) (same_name a.id b.id front.1)
    ∙ ap (λ s. key_with b.kind b.id s) (same_name a.subkey b.subkey both.1)

key_same : (a : Key) → same_key a a ≡ true
key_same a = rw (nat_list_eq_equiv.refl a.kind, nat_list_eq_equiv.refl a.id, nat_list_eq_equiv.refl a.subkey) refl

-- an entry has the bucket and the key
abbrev pub is_at : List ℕ → Key → Placed → Bool
is_at bucket key x = bytes_eq bucket x.bucket && same_key key x.key

pub at_is : (bucket : List ℕ) (key : Key) (x : Placed) → is_at bucket key x ≡ true → (bucket ≡ x.bucket) × (key ≡ x.key)
at_is bucket key x h = let parts = and_parts (bytes_eq bucket x.bucket) (same_key key x.key) h in (same_name bucket x.bucket parts.0, key_is key x.key parts.1)

pub at_itself : (x : Placed) → is_at x.bucket x.key x ≡ true
at_itself x = and_from (bytes_eq x.bucket x.bucket) (same_key x.key x.key) (nat_list_eq_equiv.refl x.bucket) (key_same x.key)

-- ---- one operation

by_put : (bucket : List ℕ) (key : Key) (held : Option Op) (id : ℕ) (x : Placed) → held_by bucket key held (put id x) ≡ cond (is_at bucket key x) (Some (put id x).op) held
by_put bucket key held id x = elim (bytes_eq bucket x.bucket) as (λ b. cond b (cond (same_key key x.key) (Some (put id x).op) held) held ≡ cond (b && same_key key x.key) (Some (put id x).op) held) [ true ↦ refl | false ↦ refl ]

by_removed : (bucket : List ℕ) (key : Key) (held : Option Op) (id : ℕ) (x : Placed) → held_by bucket key held (removed id x) ≡ cond (is_at bucket key x) None held
by_removed bucket key held id x = elim (bytes_eq bucket x.bucket) as (λ b. cond b (cond (same_key key x.key) None held) held ≡ cond (b && same_key key x.key) None held) [ true ↦ refl | false ↦ refl ]

-- ---- REMOVEs

pub held_removed : (bucket : List ℕ) (key : Key) (next : ℕ) (xs : List Placed) (held : Option Op) → held_over bucket key held (numbered removed next xs) ≡ cond (list_any (is_at bucket key) xs) None held
held_removed bucket key next [] held = refl
held_removed bucket key next (x ∷ xs) held =
    held_removed bucket key (next + 1) xs (held_by bucket key held (removed next x))
    ∙ ap (λ h. cond (list_any (is_at bucket key) xs) None h) (by_removed bucket key held next x)
    ∙ both (is_at bucket key x) (list_any (is_at bucket key) xs)
  where
    both : (a b : Bool) → cond b None (cond a None held) ≡ cond (a || b) None held
    both true true = refl
    both true false = refl
    both false b = refl

-- ---- PUTs

pub put_others : (bucket : List ℕ) (key : Key) (next : ℕ) (xs : List Placed) (held : Option Op) → list_any (is_at bucket key) xs ≡ false → held_over bucket key held (numbered put next xs) ≡ held
put_others bucket key next [] held h = refl
put_others bucket key next (x ∷ xs) held h =
    let parts = or_parts (is_at bucket key x) (list_any (is_at bucket key) xs) h in
    put_others bucket key (next + 1) xs (held_by bucket key held (put next x)) parts.1
    ∙ by_put bucket key held next x
    ∙ ap (λ b. cond b (Some (put next x).op) held) parts.0

-- the id of an entry's PUT, where they count from `next`
abbrev pub HasId : ℕ → List Placed → Placed → ℕ → Type 0
HasId next [] x id = ⊥
HasId next (y ∷ ys) x id = ((y ≡ x) × (id ≡ next)) ⊎ HasId (next + 1) ys x id

pub id_of_has : (next : ℕ) (xs : List Placed) (x : Placed) → Has xs x → (id : ℕ) × HasId next xs x id
id_of_has next [] x h = absurd h
id_of_has next (y ∷ ys) x h = elim h [
  | inl e ↦ (next, inl (e, refl))
  | inr t ↦ let r = id_of_has (next + 1) ys x t in (r.0, inr r.1)
]

pub has_of_id : (next : ℕ) (xs : List Placed) (x : Placed) (id : ℕ) → HasId next xs x id → Has xs x
has_of_id next [] x id h = absurd h
has_of_id next (y ∷ ys) x id h = elim h [ inl e ↦ inl e.0 | inr t ↦ inr (has_of_id (next + 1) ys x id t) ]

pub id_within : (next : ℕ) (xs : List Placed) (x : Placed) (id : ℕ) → HasId next xs x id → (next ≤ id) × (id < next + length xs)
id_within next [] x id h = absurd h
id_within next (y ∷ ys) x id h = elim h [
  | inl e ↦ (omega (arith, e.1), omega (arith, e.1))
  | inr t ↦ let r = id_within (next + 1) ys x id t in (omega (arith, r.0), omega (arith, r.1))
]

-- no two entries have one bucket and one key
abbrev pub AreApart : List Placed → Type 0
AreApart [] = Unit {0}
AreApart (x ∷ xs) = ((y : Placed) → Has xs y → is_at x.bucket x.key y ≡ false) × AreApart xs

none_at : (bucket : List ℕ) (key : Key) (xs : List Placed) → ((y : Placed) → Has xs y → is_at bucket key y ≡ false) → list_any (is_at bucket key) xs ≡ false
none_at bucket key [] f = refl
none_at bucket key (y ∷ ys) f = or_from (is_at bucket key y) (list_any (is_at bucket key) ys) (f y (inl refl)) (none_at bucket key ys (λ z i. f z (inr i)))

pub held_put : (next : ℕ) (xs : List Placed) (x : Placed) (id : ℕ) (held : Option Op) → AreApart xs → HasId next xs x id → held_over x.bucket x.key held (numbered put next xs) ≡ Some (put id x).op
held_put next [] x id held apart h = absurd h
held_put next (y ∷ ys) x id held apart h = elim h [
  | inl e ↦ subst (λ (z : Placed). held_over z.bucket z.key held (numbered put next (y ∷ ys)) ≡ Some (put id z).op) e.0
      (subst (λ n. held_over y.bucket y.key held (numbered put next (y ∷ ys)) ≡ Some (put n y).op) (sym e.1)
      (put_others y.bucket y.key (next + 1) ys (held_by y.bucket y.key held (put next y)) (none_at y.bucket y.key ys apart.0)
      ∙ by_put y.bucket y.key held next y
      ∙ ap (λ b. cond b (Some (put next y).op) held) (at_itself y)))
  | inr t ↦ held_put (next + 1) ys x id (held_by x.bucket x.key held (put next y)) apart.1 t
]

-- ---- a change

-- what leaves is what stood at a bucket and key where nothing stands now
pub leaving_at : (bucket : List ℕ) (key : Key) (old new : List Placed) → list_any (is_at bucket key) new ≡ false → list_any (is_at bucket key) (leaving old new) ≡ list_any (is_at bucket key) old
leaving_at bucket key old new none = go (list_any (is_at bucket key) old) refl
  where
    kept : (x : Placed) → is_at bucket key x ≡ true → not (stays new x) ≡ true
    kept x h = let e = at_is bucket key x h in not_from_false (stays new x) (subst (λ b. list_any (λ y. bytes_eq b y.bucket && same_key x.key y.key) new ≡ false) e.0 (subst (λ k. list_any (λ y. bytes_eq bucket y.bucket && same_key k y.key) new ≡ false) e.1 none))

    go : (b : Bool) → list_any (is_at bucket key) old ≡ b → list_any (is_at bucket key) (leaving old new) ≡ b
    go true e = let a = any_has (is_at bucket key) old e in has_any (is_at bucket key) (leaving old new) a.0 (has_filter (λ entry. not (stays new entry)) old a.0 a.1 (kept a.0 a.2)) a.2
    go false e = false_from_ne_true (list_any (is_at bucket key) (leaving old new)) (λ t.
        let a = any_has (is_at bucket key) (leaving old new) t in
        let w : true ≡ false = sym (has_any (is_at bucket key) old a.0 (from_filter (λ entry. not (stays new entry)) old a.0 a.1).0 a.2) ∙ e in cc)

-- where no new entry stands, old ones are gone, and all else is as before
pub held_elsewhere : (bucket : List ℕ) (key : Key) (next : ℕ) (old new : List Placed) (held : Option Op) → list_any (is_at bucket key) new ≡ false
    → held_over bucket key held (written next old new) ≡ cond (list_any (is_at bucket key) old) None held
held_elsewhere bucket key next old new held none =
    held_over-append bucket key held (numbered removed next (leaving old new)) (numbered put (next + length (leaving old new)) new)
    ∙ put_others bucket key (next + length (leaving old new)) new (held_over bucket key held (numbered removed next (leaving old new))) none
    ∙ held_removed bucket key next (leaving old new) held
    ∙ ap (λ b. cond b None held) (leaving_at bucket key old new none)

-- where a new entry stands, its PUT is held
pub held_there : (next : ℕ) (old new : List Placed) (x : Placed) (id : ℕ) (held : Option Op) → AreApart new → HasId (next + length (leaving old new)) new x id
    → held_over x.bucket x.key held (written next old new) ≡ Some (put id x).op
held_there next old new x id held apart h =
    held_over-append x.bucket x.key held (numbered removed next (leaving old new)) (numbered put (next + length (leaving old new)) new)
    ∙ held_put (next + length (leaving old new)) new x id (held_over x.bucket x.key held (numbered removed next (leaving old new))) apart h

length-numbered : (make : ℕ → Placed → Entered) (next : ℕ) (xs : List Placed) → length (numbered make next xs) ≡ length xs
length-numbered make next [] = refl
length-numbered make next (x ∷ xs) = let e = length-numbered make (next + 1) xs in omega (arith, e)

pub length-written : (next : ℕ) (old new : List Placed) → length (written next old new) ≡ length (leaving old new) + length new
length-written next old new =
    let a = length-numbered removed next (leaving old new) in
    let b = length-numbered put (next + length (leaving old new)) new in
    length-append (numbered removed next (leaving old new)) (numbered put (next + length (leaving old new)) new) ∙ omega (arith, a, b)
