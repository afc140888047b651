-- How far transactions are written: fronts of lists, positions, and what is reached.
use Rattle.std.proofs.Common.{◌≡◌, ℕ, zero, suc, ◌+◌, ◌-◌, ◌≤◌, ◌<◌, Bool, true, false, cond, List, [], ◌∷◌, ◌++◌, refl, sym, ap, ◌∙◌, subst, length, map, take, drop, fold, arith, length-append, append_assoc, append-nil}
use Rattle.std.specs.Prelude.{if◌then◌else◌, nat_le, filter, bytes_eq}
use Rattle.std.proofs.lemmas.List.{map-append}
use Rattle.std.proofs.lemmas.List.Elements.{filter-append}
use Rattle.ps_rows.specs.declared.changes.Change.{Change}
use Rattle.ps_rows.specs.declared.changes.Transaction.{Transaction}
use Rattle.ps_store.specs.declared.reach.End.{End}
use Rattle.ps_store.specs.Originals.{Entered, Timed, timed_from, timed, in_bucket}
use Rattle.ps_store.specs.Reach.{Reached, settled_from}
use Rattle.ps_store.specs.Laws.{Rises}
use Rattle.ps_store.specs.StepLaws.{transactions_upto}
use Rattle.ps_store.specs.Ledgers.{timed_of, end_of, reached_by}
use Rattle.ps_store.proofs.Fronts.{not_le, is_le, le_from, past_from}

-- ---- lists

pub take_append : {A : Type 0} (n : ℕ) (xs ys : List A) → n ≤ length xs → take n (xs ++ ys) ≡ take n xs
take_append zero xs ys h = refl
take_append (suc n) [] ys h = absurd (omega arith)
take_append (suc n) (x ∷ xs) ys h = ap (λ zs. x ∷ zs) (take_append n xs ys (omega (arith, h)))

pub map_more : {A B : Type 0} (f : A → B) (xs : List A) (x : A) → map f (xs ++ x ∷ []) ≡ map f xs ++ f x ∷ []
map_more f [] x = refl
map_more f (y ∷ xs) x = ap (λ zs. f y ∷ zs) (map_more f xs x)

pub fold_push : {A B : Type 0} (f : B → A → B) (xs : List A) (x : A) (z : B) → fold f z (xs ++ x ∷ []) ≡ f (fold f z xs) x
fold_push f [] x z = refl
fold_push f (y ∷ xs) x z = fold_push f xs x (f z y)

pub parted : {A : Type 0} (n : ℕ) (xs : List A) → xs ≡ take n xs ++ drop n xs
parted zero xs = refl
parted (suc n) [] = refl
parted (suc n) (x ∷ xs) = ap (λ zs. x ∷ zs) (parted n xs)

pub taken : {A : Type 0} (n : ℕ) (xs : List A) → n ≤ length xs → length (take n xs) ≡ n
taken zero xs h = refl
taken (suc n) [] h = absurd (omega arith)
taken (suc n) (x ∷ xs) h = let rest = taken n xs (omega (arith, h)) in omega (arith, rest)

-- the next one of a list
pub drop_next : (w : ℕ) (xs ts : List Timed) (t : Timed) → drop w xs ≡ t ∷ ts → (take (suc w) xs ≡ take w xs ++ t ∷ []) × (drop (suc w) xs ≡ ts) × (w < length xs)
drop_next zero [] ts t h = absurd (cc)
drop_next zero (x ∷ xs) ts t h = (let e : x ≡ t = cc in ap (λ (y : Timed). y ∷ []) e, cc, omega arith)
drop_next (suc w) [] ts t h = absurd (cc)
drop_next (suc w) (x ∷ xs) ts t h = let rest = drop_next w xs ts t h in (ap (λ zs. x ∷ zs) rest.0, rest.1, omega (arith, rest.2))

pub plus_one : (w : ℕ) → w + 1 ≡ suc w
plus_one w = omega arith

-- ---- transactions

pub timed_append : (fed : List Transaction) (t : Transaction) → timed (fed ++ t ∷ []) ≡ timed fed ++ timed_of t
timed_append [] t = append-nil (timed_of t)
timed_append (x ∷ fed) t = ap (λ (us : List Timed). timed_of x ++ us) (timed_append fed t) ∙ sym (append_assoc (timed_of x) (timed fed) (timed_of t))

abbrev pub head_from : ℕ → List Transaction → ℕ
head_from p fed = fold (λ p (t : Transaction). t.position.0) p fed

pub head_fed : (fed : List Transaction) (t : Transaction) (p : ℕ) → head_from p (fed ++ t ∷ []) ≡ t.position.0
head_fed [] t p = refl
head_fed (x ∷ fed) t p = head_fed fed t x.position.0

pub rises_push : (fed : List Transaction) (t : Transaction) (p : ℕ) → Rises p fed → head_from p fed < t.position.0 → Rises p (fed ++ t ∷ [])
rises_push [] t p h later = (later, tt)
rises_push (x ∷ fed) t p h later = (h.0, rises_push fed t x.position.0 h.1 later)

pub head_above : (fed : List Transaction) (p : ℕ) → Rises p fed → p ≤ head_from p fed
head_above [] p h = omega arith
head_above (x ∷ fed) p h = let rest = head_above fed x.position.0 h.1 in omega (arith, rest, h.0)

-- ---- what is settled

pub le_more : (c w n : ℕ) → nat_le c w ≡ true → nat_le c (w + n) ≡ true
le_more c w n h = let low = le_from c w h in is_le c (w + n) (omega (arith, low))

-- more transactions
pub settled_append : (xs ys : List End) (last p op w : ℕ) → settled_from last p op w (xs ++ ys)
    ≡ settled_from last (settled_from last p op w xs).position (settled_from last p op w xs).op (settled_from last p op w xs).over ((settled_from last p op w xs).left ++ ys)
settled_append [] ys last p op w = refl
settled_append (e ∷ xs) ys last p op w = by (nat_le e.changes w) refl (settled_append xs ys last e.position.0 last (w - e.changes))
  where
    by : (b : Bool) → nat_le e.changes w ≡ b
        → settled_from last e.position.0 last (w - e.changes) (xs ++ ys)
        ≡ (let s : Reached = settled_from last e.position.0 last (w - e.changes) xs in settled_from last s.position s.op s.over (s.left ++ ys))
        → (if b then settled_from last e.position.0 last (w - e.changes) (xs ++ ys) else record { position = p; op = op; over = w; left = e ∷ (xs ++ ys) })
        ≡ (let s : Reached = if b then settled_from last e.position.0 last (w - e.changes) xs else record { position = p; op = op; over = w; left = e ∷ xs } in settled_from last s.position s.op s.over (s.left ++ ys))
    by true h rest = rest
    by false h rest = λ i. if sym h i then settled_from last e.position.0 last (w - e.changes) (xs ++ ys) else record { position = p; op = op; over = w; left = e ∷ (xs ++ ys) }

-- more changes
pub settled_more : (xs : List End) (last p op w n : ℕ) → settled_from last p op (w + n) xs
    ≡ settled_from last (settled_from last p op w xs).position (settled_from last p op w xs).op ((settled_from last p op w xs).over + n) (settled_from last p op w xs).left
settled_more [] last p op w n = refl
settled_more (e ∷ xs) last p op w n = by (nat_le e.changes w) refl (settled_more xs last e.position.0 last (w - e.changes) n)
  where
    by : (b : Bool) → nat_le e.changes w ≡ b
        → settled_from last e.position.0 last ((w - e.changes) + n) xs
        ≡ (let s : Reached = settled_from last e.position.0 last (w - e.changes) xs in settled_from last s.position s.op (s.over + n) s.left)
        → settled_from last p op (w + n) (e ∷ xs)
        ≡ (let s : Reached = if b then settled_from last e.position.0 last (w - e.changes) xs else record { position = p; op = op; over = w; left = e ∷ xs } in settled_from last s.position s.op (s.over + n) s.left)
    by true h rest =
        let low : e.changes ≤ w = le_from e.changes w h in
        let k : w + n - e.changes ≡ (w - e.changes) + n = omega (arith, low) in
        (λ i. if le_more e.changes w n h i then settled_from last e.position.0 last (w + n - e.changes) xs else record { position = p; op = op; over = w + n; left = e ∷ xs })
        ∙ ap (λ m. settled_from last e.position.0 last m xs) k ∙ rest
    by false h rest = refl

-- all but the op
pub record SamePlace (a b : Reached) : Type 0 where
  pub position : a.position ≡ b.position
  pub over : a.over ≡ b.over
  pub left : a.left ≡ b.left

pub settled_place : (xs : List End) (last other p op o w : ℕ) → SamePlace (settled_from last p op w xs) (settled_from other p o w xs)
settled_place [] last other p op o w = record { position = refl; over = refl; left = refl }
settled_place (e ∷ xs) last other p op o w = by (nat_le e.changes w) (settled_place xs last other e.position.0 last other (w - e.changes))
  where
    by : (b : Bool) → SamePlace (settled_from last e.position.0 last (w - e.changes) xs) (settled_from other e.position.0 other (w - e.changes) xs)
        → SamePlace (if b then settled_from last e.position.0 last (w - e.changes) xs else record { position = p; op = op; over = w; left = e ∷ xs }) (if b then settled_from other e.position.0 other (w - e.changes) xs else record { position = p; op = o; over = w; left = e ∷ xs })
    by true rest = rest
    by false rest = record { position = refl; over = refl; left = refl }

-- the place that a ledger's counts give
abbrev pub placed : ℕ → List Transaction → Reached
placed w fed = settled_from 0 0 0 w (map end_of fed)

pub reached_is : (ts : List Transaction) (last p op w : ℕ) → (settled_from last p op w (map end_of ts)).position ≡ reached_by p w ts
reached_is [] last p op w = refl
reached_is (t ∷ ts) last p op w = by (nat_le (length t.changes) w) (reached_is ts last t.position.0 last (w - length t.changes))
  where
    by : (b : Bool) → (settled_from last t.position.0 last (w - length t.changes) (map end_of ts)).position ≡ reached_by t.position.0 (w - length t.changes) ts
        → (let s : Reached = if b then settled_from last t.position.0 last (w - length t.changes) (map end_of ts) else record { position = p; op = op; over = w; left = end_of t ∷ map end_of ts } in s.position)
        ≡ (if b then reached_by t.position.0 (w - length t.changes) ts else p)
    by true rest = rest
    by false rest = refl

-- the first that is left has a change that is not written
abbrev pub Waits : ℕ → List End → Type 0
Waits over [] = over ≡ 0
Waits over (e ∷ es) = over < e.changes

abbrev pub counted : List End → ℕ
counted [] = 0
counted (e ∷ es) = e.changes + counted es

pub settled_waits : (xs : List End) (last p op w : ℕ) → w ≤ counted xs → Waits (settled_from last p op w xs).over (settled_from last p op w xs).left
settled_waits [] last p op w h = omega (arith, h)
settled_waits (e ∷ xs) last p op w h = by (nat_le e.changes w) refl (settled_waits xs last e.position.0 last (w - e.changes))
  where
    by : (b : Bool) → nat_le e.changes w ≡ b
        → (w - e.changes ≤ counted xs → Waits (settled_from last e.position.0 last (w - e.changes) xs).over (settled_from last e.position.0 last (w - e.changes) xs).left)
        → (let s : Reached = if b then settled_from last e.position.0 last (w - e.changes) xs else record { position = p; op = op; over = w; left = e ∷ xs } in Waits s.over s.left)
    by true t rest = let low = le_from e.changes w t in rest (omega (arith, h, low))
    by false f rest = past_from e.changes w f

-- with no change over, every transaction that is passed is passed with the last id
pub zero_op : (xs : List End) (last p : ℕ) → ((settled_from last p last 0 xs).op ≡ last) × ((settled_from last p last 0 xs).over ≡ 0)
zero_op [] last p = (refl, refl)
zero_op (e ∷ xs) last p = by (nat_le e.changes 0) (zero_op xs last e.position.0)
  where
    by : (b : Bool) → ((settled_from last e.position.0 last 0 xs).op ≡ last) × ((settled_from last e.position.0 last 0 xs).over ≡ 0)
        → (let s : Reached = if b then settled_from last e.position.0 last (0 - e.changes) xs else record { position = p; op = last; over = 0; left = e ∷ xs } in (s.op ≡ last) × (s.over ≡ 0))
    by true rest =
        let none : 0 ≡ 0 - e.changes = omega arith in
        subst (λ (n : ℕ). ((settled_from last e.position.0 last n xs).op ≡ last) × ((settled_from last e.position.0 last n xs).over ≡ 0)) none rest
    by false rest = (refl, refl)

-- ---- how many changes are passed

-- what is not reached is past the head of what is before it
pub reached_above : (ts : List Transaction) (at w : ℕ) → Rises at ts → at ≤ reached_by at w ts
reached_above [] at w h = omega arith
reached_above (t ∷ ts) at w h = by (nat_le (length t.changes) w) (reached_above ts t.position.0 (w - length t.changes) h.1)
  where
    by : (b : Bool) → t.position.0 ≤ reached_by t.position.0 (w - length t.changes) ts → at ≤ (if b then reached_by t.position.0 (w - length t.changes) ts else at)
    by true rest = omega (arith, h.0, rest)
    by false rest = omega arith

pub reached_head : (ts : List Transaction) (at w : ℕ) → Rises at ts → reached_by at w ts ≤ head_from at ts
reached_head [] at w h = omega arith
reached_head (t ∷ ts) at w h = by (nat_le (length t.changes) w) (reached_head ts t.position.0 (w - length t.changes) h.1)
  where
    by : (b : Bool) → reached_by t.position.0 (w - length t.changes) ts ≤ head_from t.position.0 ts → (if b then reached_by t.position.0 (w - length t.changes) ts else at) ≤ head_from t.position.0 ts
    by true rest = rest
    by false rest = let above = head_above ts t.position.0 h.1 in omega (arith, h.0, above)

pub none_before : (ts : List Transaction) (p last : ℕ) → Rises last ts → p ≤ last → transactions_upto p ts ≡ []
none_before [] p last h le = refl
none_before (t ∷ ts) p last h le =
    ap (λ b. cond b (t ∷ transactions_upto p ts) (transactions_upto p ts)) (not_le t.position.0 p (omega (arith, h.0, le)))
    ∙ none_before ts p t.position.0 h.1 (omega (arith, h.0, le))

pub length_from : (position index : ℕ) (changes : List Change) → length (timed_from position index changes) ≡ length changes
length_from position index [] = refl
length_from position index (c ∷ cs) = let rest = length_from position (index + 1) cs in omega (arith, rest)

pub length_timed : (t : Transaction) (ts : List Transaction) → length (timed (t ∷ ts)) ≡ length t.changes + length (timed ts)
length_timed t ts = length-append (timed_of t) (timed ts) ∙ ap (λ (n : ℕ). n + length (timed ts)) (length_from t.position.0 0 t.changes)

-- the written changes are those of the transactions up to what is reached, and those that are over
pub over_is : (ts : List Transaction) (last at op w : ℕ) → Rises at ts
    → w ≡ (settled_from last at op w (map end_of ts)).over + length (timed (transactions_upto (reached_by at w ts) ts))
over_is [] last at op w h = omega arith
over_is (t ∷ ts) last at op w h = by (nat_le (length t.changes) w) refl (over_is ts last t.position.0 last (w - length t.changes) h.1)
  where
    by : (b : Bool) → nat_le (length t.changes) w ≡ b
        → w - length t.changes ≡ (settled_from last t.position.0 last (w - length t.changes) (map end_of ts)).over + length (timed (transactions_upto (reached_by t.position.0 (w - length t.changes) ts) ts))
        → (let s : Reached = if b then settled_from last t.position.0 last (w - length t.changes) (map end_of ts) else record { position = at; op = op; over = w; left = end_of t ∷ map end_of ts } in
        w ≡ s.over + length (timed (transactions_upto (if b then reached_by t.position.0 (w - length t.changes) ts else at) (t ∷ ts))))
    by true e rest =
        let low : length t.changes ≤ w = le_from (length t.changes) w e in
        let r : ℕ = reached_by t.position.0 (w - length t.changes) ts in
        let above : t.position.0 ≤ r = reached_above ts t.position.0 (w - length t.changes) h.1 in
        let is : transactions_upto r (t ∷ ts) ≡ t ∷ transactions_upto r ts = ap (λ b. cond b (t ∷ transactions_upto r ts) (transactions_upto r ts)) (is_le t.position.0 r above) in
        omega (arith, low, rest, ap (λ (us : List Transaction). length (timed us)) is, length_timed t (transactions_upto r ts))
    by false e rest =
        let none : transactions_upto at (t ∷ ts) ≡ [] = none_before (t ∷ ts) at at h (omega arith) in
        omega (arith, ap (λ (us : List Transaction). length (timed us)) none)

pub counted_is : (ts : List Transaction) → counted (map end_of ts) ≡ length (timed ts)
counted_is [] = refl
counted_is (t ∷ ts) = let rest = counted_is ts in omega (arith, rest, length_timed t ts)

pub in_more : (bucket : List ℕ) (xs ys : List Entered) → in_bucket bucket (xs ++ ys) ≡ in_bucket bucket xs ++ in_bucket bucket ys
in_more bucket xs ys =
    ap (map (λ (e : Entered). e.op)) (filter-append (λ (e : Entered). bytes_eq bucket e.bucket) xs ys)
    ∙ map-append (λ (e : Entered). e.op) (filter (λ (e : Entered). bytes_eq bucket e.bucket) xs) (filter (λ (e : Entered). bytes_eq bucket e.bucket) ys)
