-- Operations put into the logs of buckets, one behind the other.
use Rattle.std.proofs.Common.{take, get_or, ◌≡◌, ℕ, ◌+◌, ◌≤◌, ◌<◌, Bool, true, false, List, [], ◌∷◌, ◌++◌, refl, sym, ap, ◌∙◌, subst, length, append_assoc, length-append, arith}
use Rattle.std.specs.Prelude.{bytes_eq, if◌then◌else◌, unwrap_or, max}
use Rattle.std.specs.Map.{lookup}
use Rattle.std.specs.Cmp.Lexicographic.{slice_cmp}
use Rattle.std.specs.Ordering.{nat_cmp, is_eq}
use Rattle.std.proofs.lemmas.List.{take_more}
use Rattle.std.proofs.lemmas.Slice.Eq.{bytes_eq-Decides}
use Rattle.ps_bucket_log.specs.declared.ops.Op.{Op}
use Rattle.ps_store.specs.Originals.{Entered, in_bucket}
use Rattle.ps_store.specs.StoreLogs.{with_op, Continue}
use Rattle.ps_store.proofs.Maps.{tied, equal}

-- the operations of a bucket, one by one
pub in_bucket_cons : (bucket : List ℕ) (e : Entered) (es : List Entered) → in_bucket bucket (e ∷ es) ≡ (if bytes_eq bucket e.bucket then e.op ∷ in_bucket bucket es else in_bucket bucket es)
in_bucket_cons bucket e es = by (bytes_eq bucket e.bucket) refl
  where
    by : (b : Bool) → bytes_eq bucket e.bucket ≡ b → in_bucket bucket (e ∷ es) ≡ (if b then e.op ∷ in_bucket bucket es else in_bucket bucket es)
    by true h = rw h refl
    by false h = rw h refl

-- one operation, and then the rest
pub with_rest : (logs : List ℕ → List Op) (bucket : List ℕ) (e : Entered) (es : List Entered) → with_op logs e bucket ++ in_bucket bucket es ≡ logs bucket ++ in_bucket bucket (e ∷ es)
with_rest logs bucket e es = rw (in_bucket_cons bucket e es) (by (bytes_eq bucket e.bucket))
  where
    by : (b : Bool) → (if b then logs bucket ++ e.op ∷ [] else logs bucket) ++ in_bucket bucket es ≡ logs bucket ++ (if b then e.op ∷ in_bucket bucket es else in_bucket bucket es)
    by true = append_assoc (logs bucket) (e.op ∷ []) (in_bucket bucket es)
    by false = refl

-- how many there are
pub count_rest : (bucket : List ℕ) (e : Entered) (es : List Entered) → length (in_bucket bucket (e ∷ es)) ≡ (if bytes_eq bucket e.bucket then 1 else 0) + length (in_bucket bucket es)
count_rest bucket e es = rw (in_bucket_cons bucket e es) (by (bytes_eq bucket e.bucket))
  where
    by : (b : Bool) → length (if b then e.op ∷ in_bucket bucket es else in_bucket bucket es) ≡ (if b then 1 else 0) + length (in_bucket bucket es)
    by true = omega arith
    by false = omega arith

-- an operation counts in its own bucket
pub count_own : (e : Entered) (es : List Entered) → length (in_bucket e.bucket (e ∷ es)) ≡ 1 + length (in_bucket e.bucket es)
count_own e es = count_rest e.bucket e es ∙ ap (λ b. (if b then 1 else 0) + length (in_bucket e.bucket es)) ((bytes_eq-Decides e.bucket e.bucket).1 refl)

-- what continues logs continues equal ones
pub continue_along : (es : List Entered) (a b : List ℕ → List Op) → ((bucket : List ℕ) → b bucket ≡ a bucket) → Continue a es → Continue b es
continue_along es a b same h = let e : b ≡ a = λ i bucket. same bucket i in subst (λ logs. Continue logs es) (sym e) h

pub in_bucket_append : (bucket : List ℕ) (xs ys : List Entered) → in_bucket bucket (xs ++ ys) ≡ in_bucket bucket xs ++ in_bucket bucket ys
in_bucket_append bucket [] ys = refl
in_bucket_append bucket (e ∷ xs) ys =
    in_bucket_cons bucket e (xs ++ ys)
    ∙ ap (λ ops. if bytes_eq bucket e.bucket then e.op ∷ ops else ops) (in_bucket_append bucket xs ys)
    ∙ under e.op (in_bucket bucket xs) (in_bucket bucket ys) (bytes_eq bucket e.bucket)
    ∙ ap (λ ops. ops ++ in_bucket bucket ys) (sym (in_bucket_cons bucket e xs))
  where
    under : (op : Op) (xs ys : List Op) (b : Bool) → (if b then op ∷ (xs ++ ys) else xs ++ ys) ≡ (if b then op ∷ xs else xs) ++ ys
    under op xs ys true = refl
    under op xs ys false = refl

-- one more is counted
pub count_more : (bucket : List ℕ) (es : List Entered) (i : ℕ) (e : Entered) → i < length es → e ≡ get_or es i e
    → length (in_bucket bucket (take (i + 1) es)) ≡ length (in_bucket bucket (take i es)) + (if bytes_eq bucket e.bucket then 1 else 0)
count_more bucket es i e within is =
    ap (λ xs. length (in_bucket bucket xs)) (take_more es i e within ∙ ap (λ x. take i es ++ x ∷ []) (sym is))
    ∙ ap length (in_bucket_append bucket (take i es) (e ∷ []))
    ∙ omega (arith, length-append (in_bucket bucket (take i es)) (in_bucket bucket (e ∷ [])), count_rest bucket e [])

module _ (given old new : List ℕ → ℕ) (k : List ℕ) (v : ℕ) (es : List (List ℕ × ℕ)) where
  -- room is made for one more name
  pub rooms_more : ((name : List ℕ) → old name ≤ new name) → v ≤ new k
      → ((name : List ℕ) → given name ≤ max (old name) (unwrap_or (lookup (λ q. is_eq (slice_cmp nat_cmp name q)) ((k, v) ∷ es)) 0))
      → (name : List ℕ) → given name ≤ max (new name) (unwrap_or (lookup (λ q. is_eq (slice_cmp nat_cmp name q)) es) 0)
  rooms_more more room before name = by (is_eq (slice_cmp nat_cmp name k)) refl
    where
      by : (b : Bool) → is_eq (slice_cmp nat_cmp name k) ≡ b → given name ≤ max (new name) (unwrap_or (lookup (λ q. is_eq (slice_cmp nat_cmp name q)) es) 0)
      by true e =
          let h : given name ≤ max (old name) v = rw e at (before name) in
          let here : v ≤ new name = subst (λ n. v ≤ new n) (equal k name (sym (tied name k) ∙ e)) room in
          omega (arith, h, here, more name)
      by false e =
          let h : given name ≤ max (old name) (unwrap_or (lookup (λ q. is_eq (slice_cmp nat_cmp name q)) es) 0) = rw e at (before name) in
          omega (arith, h, more name)
