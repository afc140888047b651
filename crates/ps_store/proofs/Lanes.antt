-- Changes that are written next, one after the other.
use Rattle.std.proofs.Common.{◌≡◌, ℕ, zero, suc, ◌+◌, ◌*◌, ◌≤◌, ◌<◌, Bool, true, false, not, cond, max, Option, Some, None, List, [], ◌∷◌, ◌++◌, refl, sym, ap, ◌∙◌, subst, length, filter, take, drop, fold, arith, append_assoc, append-nil, length-append}
use Rattle.std.specs.Prelude.{bytes_eq, if◌then◌else◌, nat_lt}
use Rattle.std.specs.FinMap.Entries.{find}
use Rattle.std.specs.Ordering.{eq_by_cmp}
use Rattle.std.proofs.lemmas.Bool.Decides.{nat_tests}
use Rattle.std.proofs.lemmas.List.Sums.{fold-append}
use Rattle.ps_bucket_log.specs.declared.ops.Op.{Op}
use Rattle.ps_bucket_log.specs.Logs.{IsRising}
use Rattle.ps_bucket_log.specs.Ops.{id_of, is_clear, newest}
use Rattle.ps_rows.specs.Source.{Key, key_cmp, Version}
use Rattle.ps_rows.specs.Keys.{find-after_row}
use Rattle.ps_bucket_eval.specs.declared.placed.Placed.{Placed}
use Rattle.ps_store.specs.declared.fixed.Limits.{Limits}
use Rattle.ps_store.specs.declared.plans.Refusal.{Refusal}
use Rattle.ps_store.specs.declared.plans.Refusal.TheVariants.{TooWide, OpsFull}
use Rattle.ps_store.specs.Ledgers.{Ledger, entries_after, next_ops, newest_of, write_next}
use Rattle.ps_store.specs.Originals.{Entered, Timed, key_of, after, entries_at, columns_of, standing_entries, stays, removed, put, leaving, numbered, change_ops, in_bucket}
use Rattle.ps_store.specs.Steps.{marked}
use Rattle.ps_store.specs.Generations.{mark_of}
use Rattle.ps_store.specs.Runs.{Run, refusal_of, stopped, run_from, ops_from, lasts_from}
use Rattle.ps_store.specs.StoreLogs.{with_op, Continue}
use Rattle.ps_store.specs.Tails.{reach_after, with_row, rows_after}
use Rattle.ps_store.proofs.Filling.{in_bucket_cons, in_bucket_append}
use Rattle.ps_store.proofs.Maps.{equal_rows}
use Rattle.ps_store.proofs.Sources.{columns_after}

-- ---- what changes do to a ledger

pub fold_push : {A B : Type 0} (f : B → A → B) (xs : List A) (x : A) (z : B) → fold f z (xs ++ x ∷ []) ≡ f (fold f z xs) x
fold_push f [] x z = refl
fold_push f (y ∷ xs) x z = fold_push f xs x (f z y)

pub length_lasts : (ts : List Timed) (l : Ledger) → length (lasts_from l ts) ≡ length ts
length_lasts [] l = refl
length_lasts (t ∷ ts) l = ap suc (length_lasts ts (write_next l t))

pub ops_push : (ts : List Timed) (t : Timed) (l : Ledger) → ops_from l (ts ++ t ∷ []) ≡ ops_from l ts ++ next_ops (fold write_next l ts) t
ops_push [] t l = append-nil (next_ops l t)
ops_push (x ∷ ts) t l =
    ap (λ es. next_ops l x ++ es) (ops_push ts t (write_next l x))
    ∙ sym (append_assoc (next_ops l x) (ops_from (write_next l x) ts) (next_ops (fold write_next (write_next l x) ts) t))

pub lasts_push : (ts : List Timed) (t : Timed) (l : Ledger) → lasts_from l (ts ++ t ∷ []) ≡ lasts_from l ts ++ (write_next (fold write_next l ts) t).wrote ∷ []
lasts_push [] t l = refl
lasts_push (x ∷ ts) t l = ap (λ ns. (write_next l x).wrote ∷ ns) (lasts_push ts t (write_next l x))

pub next_rules : (ts : List Timed) (l : Ledger) → (fold write_next l ts).force.rules ≡ l.force.rules
next_rules [] l = refl
next_rules (t ∷ ts) l = next_rules ts (write_next l t)

pub next_number : (ts : List Timed) (l : Ledger) → (fold write_next l ts).force.number ≡ l.force.number
next_number [] l = refl
next_number (t ∷ ts) l = next_number ts (write_next l t)

-- the operations of the first generation have no mark
pub unmarked : (es : List Entered) → marked [] es ≡ es
unmarked [] = refl
unmarked (e ∷ es) = ap (λ rest. e ∷ rest) (unmarked es)

first_unmarked : (number : ℕ) (es : List Entered) → number ≡ 1 → marked (mark_of number) es ≡ es
first_unmarked number es first = ap (λ (n : ℕ). marked (mark_of n) es) first ∙ unmarked es

pub next_plain : (l : Ledger) (t : Timed) → l.force.number ≡ 1 → next_ops l t ≡ change_ops l.force.rules.definitions l.force.source (l.last + 1) t
next_plain l t first = first_unmarked l.force.number (change_ops l.force.rules.definitions l.force.source (l.last + 1) t) first

-- where every id is of a Write, so is the last one
pub greater : (last : ℕ) (ops : List Entered) → max last (newest_of last ops) ≡ last + length ops
greater last [] = omega arith
greater last (e ∷ es) = omega arith

pub next_wrote : (ts : List Timed) (l : Ledger) → l.wrote ≡ l.last → (fold write_next l ts).wrote ≡ (fold write_next l ts).last
next_wrote [] l h = h
next_wrote (t ∷ ts) l h = next_wrote ts (write_next l t) (ap (λ (n : ℕ). max n (newest_of l.last (next_ops l t))) h ∙ greater l.last (next_ops l t))

pub next_log : (bucket : List ℕ) (ts : List Timed) (l : Ledger) → (fold write_next l ts).log bucket ≡ l.log bucket ++ in_bucket bucket (ops_from l ts)
next_log bucket [] l = sym (append-nil (l.log bucket))
next_log bucket (t ∷ ts) l =
    next_log bucket ts (write_next l t)
    ∙ append_assoc (l.log bucket) (in_bucket bucket (next_ops l t)) (in_bucket bucket (ops_from (write_next l t) ts))
    ∙ ap (λ ops. l.log bucket ++ ops) (sym (in_bucket_append bucket (next_ops l t) (ops_from (write_next l t) ts)))

pub next_last : (ts : List Timed) (l : Ledger) → (fold write_next l ts).last ≡ l.last + length (ops_from l ts)
next_last [] l = omega arith
next_last (t ∷ ts) l =
    let h : (fold write_next l (t ∷ ts)).last ≡ l.last + length (next_ops l t) + length (ops_from (write_next l t) ts) = next_last ts (write_next l t) in
    omega (arith, h, length-append (next_ops l t) (ops_from (write_next l t) ts))

pub next_reach : (ts : List Timed) (l : Ledger) → (fold write_next l ts).reach ≡ reach_after l.reach (lasts_from l ts)
next_reach [] l = refl
next_reach (t ∷ ts) l = next_reach ts (write_next l t)

pub next_written : (ts : List Timed) (l : Ledger) → (fold write_next l ts).written ≡ l.written + length ts
next_written [] l = omega arith
next_written (t ∷ ts) l = let h : (fold write_next l (t ∷ ts)).written ≡ l.written + 1 + length ts = next_written ts (write_next l t) in omega (arith, h)

pub next_rows : (ts : List Timed) (l : Ledger) (key : Key) → find key_cmp key (fold write_next l ts).force.source ≡ rows_after (λ q. find key_cmp q l.force.source) ts key
next_rows [] l key = refl
next_rows (t ∷ ts) l key =
    let one : (λ (q : Key). find key_cmp q (after l.force.source t)) ≡ with_row (λ q. find key_cmp q l.force.source) t =
    λ i q. find-after_row t.position t.index (key_of t) t.change.row l.force.source q i in
    next_rows ts (write_next l t) key ∙ ap (λ (rows : Key → Option Version). rows_after rows ts key) one

-- the rest stays
pub record Rests (l n : Ledger) : Type 0 where
  pub fed : n.fed ≡ l.fed
  pub closed : n.closed ≡ l.closed
  pub position : n.position ≡ l.position
  pub op : n.op ≡ l.op
  pub numbers : n.numbers ≡ l.numbers

pub next_rests : (ts : List Timed) (l : Ledger) → Rests l (fold write_next l ts)
next_rests [] l = record { fed = refl; closed = refl; position = refl; op = refl; numbers = refl }
next_rests (t ∷ ts) l = let h = next_rests ts (write_next l t) in record { fed = h.fed; closed = h.closed; position = h.position; op = h.op; numbers = h.numbers }

-- ---- ids

-- ids rise past p, up to q, and there is no CLEAR
abbrev pub Rises : ℕ → List Entered → ℕ → Type 0
Rises p [] q = p ≤ q
Rises p (e ∷ es) q = (p < id_of e.op) × (is_clear e.op ≡ false) × Rises (id_of e.op) es q

rises_from : (es : List Entered) (p r q : ℕ) → p ≤ r → Rises r es q → Rises p es q
rises_from [] p r q h k = omega (arith, h, k)
rises_from (e ∷ es) p r q h k = (omega (arith, h, k.0), k.1, k.2)

pub rises_append : (xs ys : List Entered) (p r q : ℕ) → Rises p xs r → Rises r ys q → Rises p (xs ++ ys) q
rises_append [] ys p r q h k = rises_from ys p r q h k
rises_append (e ∷ xs) ys p r q h k = (h.0, h.1, rises_append xs ys (id_of e.op) r q h.2 k)

rises_numbered : (make : ℕ → Placed → Entered) → ((n : ℕ) (x : Placed) → (id_of (make n x).op ≡ n) × (is_clear (make n x).op ≡ false))
    → (xs : List Placed) (p : ℕ) → Rises p (numbered make (p + 1) xs) (p + length xs)
rises_numbered make says [] p = omega arith
rises_numbered make says (x ∷ xs) p =
    let e = says (p + 1) x in
    let q : p + 1 + length xs ≡ p + suc (length xs) = omega arith in
    (omega (arith, e.0), e.1, subst (λ n. Rises n (numbered make (p + 1 + 1) xs) (p + suc (length xs))) (sym e.0) (subst (λ n. Rises (p + 1) (numbered make (p + 1 + 1) xs) n) q (rises_numbered make says xs (p + 1))))

pub length_numbered : (make : ℕ → Placed → Entered) (next : ℕ) (xs : List Placed) → length (numbered make next xs) ≡ length xs
length_numbered make next [] = refl
length_numbered make next (x ∷ xs) = ap suc (length_numbered make (next + 1) xs)

-- the entries before a change, and those that it leaves no more
abbrev before_of : Ledger → Timed → List Placed
before_of l t = standing_entries l.force.rules.definitions l.force.source (key_of t)

abbrev gone_of : Ledger → Timed → List Placed
gone_of l t = leaving (before_of l t) (entries_after l t)

length_marked : (mark : List ℕ) (es : List Entered) → length (marked mark es) ≡ length es
length_marked mark [] = refl
length_marked mark (e ∷ es) = ap suc (length_marked mark es)

length_change : (l : Ledger) (t : Timed) → length (next_ops l t) ≡ length (gone_of l t) + length (entries_after l t)
length_change l t = omega (
  arith,
  length_marked (mark_of l.force.number) (numbered removed (l.last + 1) (gone_of l t) ++ numbered put (l.last + 1 + length (gone_of l t)) (entries_after l t)),
  length-append (numbered removed (l.last + 1) (gone_of l t)) (numbered put (l.last + 1 + length (gone_of l t)) (entries_after l t)),
  length_numbered removed (l.last + 1) (gone_of l t),
  length_numbered put (l.last + 1 + length (gone_of l t)) (entries_after l t),
)

rises_marked : (mark : List ℕ) (es : List Entered) (p q : ℕ) → Rises p es q → Rises p (marked mark es) q
rises_marked mark [] p q h = h
rises_marked mark (e ∷ es) p q h = (h.0, h.1, rises_marked mark es (id_of e.op) q h.2)

rises_change : (l : Ledger) (t : Timed) → Rises l.last (next_ops l t) (write_next l t).last
rises_change l t =
    let gone : List Placed = gone_of l t in
    let left : List Placed = entries_after l t in
    let a : Rises l.last (numbered removed (l.last + 1) gone) (l.last + length gone) = rises_numbered removed (λ n x. (refl, refl)) gone l.last in
    let first : l.last + length gone + 1 ≡ l.last + 1 + length gone = omega arith in
    let b : Rises (l.last + length gone) (numbered put (l.last + 1 + length gone) left) (l.last + length gone + length left) =
    subst (λ n. Rises (l.last + length gone) (numbered put n left) (l.last + length gone + length left)) first (rises_numbered put (λ n x. (refl, refl)) left (l.last + length gone)) in
    let n : l.last + length gone + length left ≡ l.last + length (next_ops l t) = omega (arith, length_change l t) in
    subst (λ q. Rises l.last (next_ops l t) q) n
    (rises_marked (mark_of l.force.number) (numbered removed (l.last + 1) gone ++ numbered put (l.last + 1 + length gone) left) l.last (l.last + length gone + length left)
    (rises_append (numbered removed (l.last + 1) gone) (numbered put (l.last + 1 + length gone) left) l.last (l.last + length gone) (l.last + length gone + length left) a b))

pub rises_ops : (ts : List Timed) (l : Ledger) → Rises l.last (ops_from l ts) (fold write_next l ts).last
rises_ops [] l = omega arith
rises_ops (t ∷ ts) l = rises_append (next_ops l t) (ops_from (write_next l t) ts) l.last (write_next l t).last (fold write_next l (t ∷ ts)).last (rises_change l t) (rises_ops ts (write_next l t))

rises_end : (es : List Entered) (p q : ℕ) → Rises p es q → p ≤ q
rises_end [] p q h = h
rises_end (e ∷ es) p q h = omega (arith, h.0, rises_end es (id_of e.op) q h.2)

within_from : (bucket : List ℕ) (es : List Entered) (a p q : ℕ) → a ≤ q → Rises p es q → fold (λ (a : ℕ) (o : Op). id_of o) a (in_bucket bucket es) ≤ q
within_from bucket [] a p q h k = h
within_from bucket (e ∷ es) a p q h k =
    subst (λ (ops : List Op). fold (λ (a : ℕ) (o : Op). id_of o) a ops ≤ q) (sym (in_bucket_cons bucket e es))
    (by (bytes_eq bucket e.bucket) (within_from bucket es (id_of e.op) (id_of e.op) q (rises_end es (id_of e.op) q k.2) k.2) (within_from bucket es a (id_of e.op) q h k.2))
  where
    by : (b : Bool) → fold (λ (a : ℕ) (o : Op). id_of o) (id_of e.op) (in_bucket bucket es) ≤ q → fold (λ (a : ℕ) (o : Op). id_of o) a (in_bucket bucket es) ≤ q
        → fold (λ (a : ℕ) (o : Op). id_of o) a (if b then e.op ∷ in_bucket bucket es else in_bucket bucket es) ≤ q
    by true here apart = here
    by false here apart = apart

-- no bucket has an id past the last one
pub newest_within : (bucket : List ℕ) (ops : List Op) (es : List Entered) (p q : ℕ) → newest ops ≤ p → Rises p es q → newest (ops ++ in_bucket bucket es) ≤ q
newest_within bucket ops es p q h k =
    subst (λ n. n ≤ q) (sym (fold-append (λ (a : ℕ) (o : Op). id_of o) 0 ops (in_bucket bucket es)))
    (within_from bucket es (newest ops) p q (omega (arith, h, rises_end es p q k)) k)

-- and its ids rise
rising_lower : (ops : List Op) (p q : ℕ) → p ≤ q → IsRising q ops → IsRising p ops
rising_lower [] p q h k = tt
rising_lower (op ∷ ops) p q h k = (omega (arith, h, k.0), k.1)

pub rising_in : (bucket : List ℕ) (es : List Entered) (p q : ℕ) → Rises p es q → IsRising p (in_bucket bucket es)
rising_in bucket [] p q h = tt
rising_in bucket (e ∷ es) p q h = subst (IsRising p) (sym (in_bucket_cons bucket e es)) (by (bytes_eq bucket e.bucket) (rising_in bucket es (id_of e.op) q h.2))
  where
    by : (b : Bool) → IsRising (id_of e.op) (in_bucket bucket es) → IsRising p (if b then e.op ∷ in_bucket bucket es else in_bucket bucket es)
    by true rest = (h.0, rest)
    by false rest = rising_lower (in_bucket bucket es) p (id_of e.op) (omega (arith, h.0)) rest

rising_append : (xs ys : List Op) (p r : ℕ) → IsRising p xs → fold (λ (a : ℕ) (o : Op). id_of o) p xs ≤ r → IsRising r ys → IsRising p (xs ++ ys)
rising_append [] ys p r h k rest = rising_lower ys p r k rest
rising_append (x ∷ xs) ys p r h k rest = (h.0, rising_append xs ys (id_of x) r h.1 k rest)

pub rising_more : (bucket : List ℕ) (ops : List Op) (es : List Entered) (p q : ℕ) → IsRising 0 ops → newest ops ≤ p → Rises p es q → IsRising 0 (ops ++ in_bucket bucket es)
rising_more bucket ops es p q h k rises = rising_append ops (in_bucket bucket es) 0 p h k (rising_in bucket es p q rises)

newest_more : (p : ℕ) (ops : List Op) (op : Op) → fold (λ (a : ℕ) (o : Op). id_of o) p (ops ++ op ∷ []) ≡ id_of op
newest_more p [] op = refl
newest_more p (x ∷ ops) op = newest_more (id_of x) ops op

-- operations with risen ids continue the logs
pub continues : (es : List Entered) (logs : List ℕ → List Op) (p q : ℕ) → ((bucket : List ℕ) → newest (logs bucket) ≤ p) → Rises p es q → Continue logs es
continues [] logs p q h k = tt
continues (e ∷ es) logs p q h k =
    (omega (arith, h e.bucket, k.0), k.1, continues es (with_op logs e) (id_of e.op) q (λ bucket. by bucket (bytes_eq bucket e.bucket)) k.2)
  where
    by : (bucket : List ℕ) (b : Bool) → newest (if b then logs bucket ++ e.op ∷ [] else logs bucket) ≤ id_of e.op
    by bucket true = omega (arith, newest_more 0 (logs bucket) e.op)
    by bucket false = omega (arith, h bucket, k.0)

-- ---- runs

-- a run is a front
pub record IsFront (l : Ledger) (k : ℕ) (xs : List Timed) (run : Run) : Type 0 where
  pub n : ℕ
  pub count : run.count ≡ k + n
  pub within : n ≤ length xs
  pub ledger_is : run.ledger ≡ fold write_next l (take n xs)

pub run_is_front : (limits : Limits) (xs : List Timed) (l : Ledger) (k : ℕ) → IsFront l k xs (run_from limits l k xs)
run_is_front limits [] l k = record { n = 0; count = omega arith; within = omega arith; ledger_is = refl }
run_is_front limits (t ∷ ts) l k = by (refusal_of limits l t) (run_is_front limits ts (write_next l t) (k + 1))
  where
    by : (o : Option Refusal) → IsFront (write_next l t) (k + 1) ts (run_from limits (write_next l t) (k + 1) ts) → IsFront l k (t ∷ ts) (stopped l k o (run_from limits (write_next l t) (k + 1) ts))
    by None h = record { n = suc h.n; count = omega (arith, h.count); within = omega (arith, h.within); ledger_is = h.ledger_is }
    by (Some refusal) h = record { n = 0; count = omega arith; within = omega arith; ledger_is = refl }

pub take_front : (n limit : ℕ) (xs : List Timed) → n ≤ length (take limit xs) → take n (take limit xs) ≡ take n xs
take_front zero limit xs h = refl
take_front (suc n) zero xs h = absurd (omega arith)
take_front (suc n) (suc limit) [] h = refl
take_front (suc n) (suc limit) (x ∷ xs) h = ap (λ ys. x ∷ ys) (take_front n limit xs (omega (arith, h)))

pub drop_again : (w n : ℕ) (xs : List Timed) → drop n (drop w xs) ≡ drop (w + n) xs
drop_again zero n xs = let e : n ≡ 0 + n = omega arith in ap (λ k. drop k xs) e
drop_again (suc w) zero [] = let e : suc w + 0 ≡ suc w = omega arith in ap (λ (k : ℕ). drop k []) (sym e)
drop_again (suc w) (suc n) [] = let e : suc w + suc n ≡ suc (w + suc n) = omega arith in ap (λ (k : ℕ). drop k []) (sym e)
drop_again (suc w) n (x ∷ xs) = let e : suc w + n ≡ suc (w + n) = omega arith in drop_again w n xs ∙ ap (λ k. drop k (x ∷ xs)) (sym e)

-- ---- what a run keeps

abbrev pub IsNarrow : Limits → Ledger → Type 0
IsNarrow limits l = (key : Key) → length (standing_entries l.force.rules.definitions l.force.source key) ≤ limits.entries

-- a change that is not refused
record Fits (limits : Limits) (l : Ledger) (t : Timed) : Type 0 where
  pub narrow : length (entries_after l t) ≤ limits.entries
  pub ids : l.last + length (next_ops l t) ≤ limits.ops

not_less : (a b : ℕ) → nat_lt a b ≡ false → b ≤ a
not_less a b h = grind (arith, nat_tests)

fits : (limits : Limits) (l : Ledger) (t : Timed) → refusal_of limits l t ≡ None → Fits limits l t
fits limits l t h = by (nat_lt limits.entries (length (entries_after l t))) (nat_lt limits.ops (l.last + length (next_ops l t))) refl refl h
  where
    by : (wide full : Bool) → nat_lt limits.entries (length (entries_after l t)) ≡ wide → nat_lt limits.ops (l.last + length (next_ops l t)) ≡ full
        → (if wide then Some (TooWide (limits.entries + 1)) else if full then Some OpsFull else None) ≡ None → Fits limits l t
    by true full a b e = absurd (cc)
    by false true a b e = absurd (cc)
    by false false a b e = record { narrow = not_less limits.entries (length (entries_after l t)) a; ids = not_less limits.ops (l.last + length (next_ops l t)) b }

narrow_next : (limits : Limits) (l : Ledger) (t : Timed) → IsNarrow limits l → length (entries_after l t) ≤ limits.entries → IsNarrow limits (write_next l t)
narrow_next limits l t h low key =
    subst (λ row. length (entries_at l.force.rules.definitions key row) ≤ limits.entries) (sym (columns_after l.force.source t key)) (by (eq_by_cmp key_cmp key (key_of t)) refl)
  where
    by : (b : Bool) → eq_by_cmp key_cmp key (key_of t) ≡ b → length (entries_at l.force.rules.definitions key (cond b t.change.row (columns_of (find key_cmp key l.force.source)))) ≤ limits.entries
    by true e = subst (λ (q : Key). length (entries_at l.force.rules.definitions q t.change.row) ≤ limits.entries) (sym (equal_rows key (key_of t) e)) low
    by false e = h key

filter_less : {A : Type 0} (p : A → Bool) (xs : List A) → length (filter p xs) ≤ length xs
filter_less p [] = omega arith
filter_less p (x ∷ xs) = by (p x) refl (filter_less p xs)
  where
    by : (b : Bool) → p x ≡ b → length (filter p xs) ≤ length xs → length (filter p (x ∷ xs)) ≤ suc (length xs)
    by true e h = rw e (omega (arith, h))
    by false e h = rw e (omega (arith, h))

-- a run keeps rows narrow and ids low, and gives at most two ids for each entry that a row may have
pub record IsLow (limits : Limits) (l : Ledger) (n : ℕ) (run : Ledger) : Type 0 where
  pub narrow : IsNarrow limits run
  pub ids : run.last ≤ limits.ops
  pub grown : run.last ≤ l.last + n * 2000

pub run_is_low : (limits : Limits) → limits.entries ≤ 1000 → (xs : List Timed) (l : Ledger) (k : ℕ) → IsNarrow limits l → l.last ≤ limits.ops → IsLow limits l (length xs) (run_from limits l k xs).ledger
run_is_low limits usual [] l k h low = record { narrow = h; ids = low; grown = omega arith }
run_is_low limits usual (t ∷ ts) l k h low = by (refusal_of limits l t) refl (λ narrow ids. run_is_low limits usual ts (write_next l t) (k + 1) narrow ids)
  where
    by : (o : Option Refusal) → refusal_of limits l t ≡ o
        → (IsNarrow limits (write_next l t) → (write_next l t).last ≤ limits.ops → IsLow limits (write_next l t) (length ts) (run_from limits (write_next l t) (k + 1) ts).ledger)
        → IsLow limits l (length (t ∷ ts)) (stopped l k o (run_from limits (write_next l t) (k + 1) ts)).ledger
    by (Some refusal) e later = record { narrow = h; ids = low; grown = omega arith }
    by None e later =
        let f = fits limits l t e in
        let rest : IsLow limits (write_next l t) (length ts) (run_from limits (write_next l t) (k + 1) ts).ledger = later (narrow_next limits l t h f.narrow) f.ids in
        let less : length (gone_of l t) ≤ length (before_of l t) = filter_less (λ entry. not (stays (entries_after l t) entry)) (before_of l t) in
        let most : length (next_ops l t) ≤ 2000 = omega (arith, length_change l t, less, h (key_of t), f.narrow, usual) in
        record { narrow = rest.narrow; ids = rest.ids; grown = omega (arith, rest.grown, most) }
