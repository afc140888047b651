-- Rows that are read one after another.
use Rattle.std.proofs.Common.{◌≡◌, ℕ, ◌+◌, ◌-◌, ◌<◌, ℤ, pos, ◌<ℤ◌, All, inl, inr, arith, Bool, false, List, [], ◌∷◌, ◌++◌, map, length, take, drop, get_or, sym, ap, ◌∙◌, refl}
use Rattle.std.proofs.lemmas.List.{map-append, take_more, take-append-drop}
use Rattle.std.proofs.lemmas.Bool.{cases_lt}
use Rattle.std.proofs.lemmas.Int.{ints}
use Rattle.std.proofs.lemmas.Grind.{flat_map-append}
use Rattle.std.proofs.lemmas.List.{append-nil}
use Rattle.std.proofs.Math.Seq.{take-add}
use Rattle.std.specs.List.{IsDistinct, AllByRecursion, flat_map}
use Rattle.ps_bucket_log.specs.declared.ops.Key.{Key}
use Rattle.ps_client_log.specs.declared.states.Held.{Held}
use Rattle.ps_client_lines.specs.declared.cells.Cell.{Cell}
use Rattle.ps_client_lines.specs.declared.cells.Cell.TheVariants.{Int, Text}
use Rattle.ps_client_lines.specs.declared.lines.Queued.{Queued}
use Rattle.ps_client_lines.specs.Rows.{entry_row}
use Rattle.ps_client_lines.specs.Holding.{AreRising}

-- one more is read, and its row is the next
pub rows_more : {X Y : Type 0} (f : X → Y) (xs : List X) (x : X) (ys : List Y) (i : ℕ) (y : Y) → i < length ys → y ≡ get_or ys i y → y ≡ f x → map f xs ≡ take i ys → map f (xs ++ x ∷ []) ≡ take (i + 1) ys
rows_more f xs x ys i y within place row so_far =
    map-append f xs (x ∷ []) ∙ ap (λ zs. zs ++ f x ∷ []) so_far ∙ ap (λ z. take i ys ++ z ∷ []) (sym row ∙ place) ∙ sym (take_more ys i y within)

-- one more key is noted
pub keys_more : {X Y : Type 0} (f : X → Y) (xs : List X) (x : X) (was now : List Y) → was ≡ map f xs → now ≡ was ++ f x ∷ [] → now ≡ map f (xs ++ x ∷ [])
keys_more f xs x was now before after = after ∙ ap (λ ks. ks ++ f x ∷ []) before ∙ sym (map-append f xs (x ∷ []))

-- the rows of one more are the next of all
pub parts_more : {X Y : Type 0} (f : X → List Y) (xs : List X) (x : X) (ys : List Y) (start n : ℕ) → flat_map f xs ≡ take start ys → f x ≡ take n (drop start ys) → flat_map f (xs ++ x ∷ []) ≡ take (start + n) ys
parts_more f xs x ys start n so_far next =
    flat_map-append f xs (x ∷ []) ∙ ap (λ zs. flat_map f xs ++ zs) (append-nil (f x)) ∙ ap (λ zs. zs ++ f x) so_far ∙ ap (λ zs. take start ys ++ zs) next ∙ sym (take-add start n ys)

apart_by : {X Y : Type 0} (f : X → Y) (same : Y → Y → Bool) (x : X) (xs : List X) → AllByRecursion (λ y. same (f x) y ≡ false) (map f xs) → AllByRecursion (λ y. same (f x) (f y) ≡ false) xs
apart_by f same x [] h = tt
apart_by f same x (y ∷ xs) h = (h.0, apart_by f same x xs h.1)

-- where what is read of them is distinct, they are
pub distinct_by : {X Y : Type 0} (f : X → Y) (same : Y → Y → Bool) (xs : List X) → IsDistinct same (map f xs) → IsDistinct (λ a b. same (f a) (f b)) xs
unfolding IsDistinct
distinct_by f same [] h = tt
distinct_by f same (x ∷ xs) h = (apart_by f same x xs h.0, distinct_by f same xs h.1)

pub map_twice : {X Y Z : Type 0} (f : X → Y) (g : Y → Z) (xs : List X) → map (λ x. g (f x)) xs ≡ map g (map f xs)
map_twice f g [] = refl
map_twice f g (x ∷ xs) = ap (λ zs. g (f x) ∷ zs) (map_twice f g xs)

-- the columns of an entry are those of its key, and the others
pub entry_joined : (row key values : List Cell) (bucket : List ℕ) (k : Key) (held : Held) → key ≡ take 4 row → values ≡ drop 4 row → key ≡ Text bucket ∷ Text k.kind ∷ Text k.id ∷ Text k.subkey ∷ []
    → held.key ≡ k → values ≡ Int (pos held.id.0) ∷ Text held.content ∷ Int (pos held.sum.0) ∷ [] → row ≡ entry_row bucket held
entry_joined row key values bucket k held front back keyed same valued =
    sym (take-append-drop 4 row) ∙ ap (λ (x : List Cell). x ++ drop 4 row) (sym front ∙ keyed)
    ∙ ap (λ (v : List Cell). (Text bucket ∷ Text k.kind ∷ Text k.id ∷ Text k.subkey ∷ []) ++ v) (sym back ∙ valued)
    ∙ ap (λ (q : Key). Text bucket ∷ Text q.kind ∷ Text q.id ∷ Text q.subkey ∷ Int (pos held.id.0) ∷ Text held.content ∷ Int (pos held.sum.0) ∷ []) (sym same)

-- each number is below what is past that of the last
pub below_next : (lines : List Queued) (last : Queued) (n : ℤ) → AreRising lines → ((d : Queued) → last ≡ get_or lines (length lines - 1) d) → last.seq <ℤ n → All (λ line. line.seq <ℤ n) lines
below_next lines last n up place low k d within = elim (cases_lt k (length lines - 1)) [
  | inl below ↦
      let r = up k (length lines - 1) d below (omega arith) in
      let e : last.seq ≡ (get_or lines (length lines - 1) d).seq = ap (λ (q : Queued). q.seq) (place d) in
      omega (arith, ints)
  | inr at ↦
      let same : k ≡ length lines - 1 = omega arith in
      let e : (get_or lines k d).seq ≡ last.seq = ap (λ i. (get_or lines i d).seq) same ∙ sym (ap (λ (q : Queued). q.seq) (place d)) in
      omega (arith, ints)
]
