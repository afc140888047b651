-- The changes of transactions in order: their moments rise, and the last source is what they leave.
use Rattle.std.proofs.Common.{◌≡◌, ℕ, ◌+◌, ◌<◌, ◌≤◌, cond, List, [], ◌∷◌, ◌++◌, refl, sym, ap, ◌∙◌, arith}
use Rattle.std.specs.Prelude.{filter, nat_le}
use Rattle.std.proofs.lemmas.Bool.{le-leb}
use Rattle.ps_rows.specs.declared.changes.Change.{Change}
use Rattle.ps_rows.specs.declared.changes.Transaction.{Transaction}
use Rattle.ps_rows.specs.Source.{Source, Version, after_changes, after_transactions, source_at}
use Rattle.ps_store.specs.Originals.{Timed, timed_from, timed, after}
use Rattle.ps_store.specs.Laws.{Rises, last_position}

-- ---- the last source

abbrev pub after_all : Source → List Timed → Source
after_all source [] = source
after_all source (t ∷ ts) = after_all (after source t) ts

after_all-append : (source : Source) (xs ys : List Timed) → after_all source (xs ++ ys) ≡ after_all (after_all source xs) ys
after_all-append source [] ys = refl
after_all-append source (x ∷ xs) ys = after_all-append (after source x) xs ys

changes_leave : (position index : ℕ) (changes : List Change) (source : Source) → after_all source (timed_from position index changes) ≡ after_changes position index changes source
changes_leave position index [] source = refl
changes_leave position index (change ∷ changes) source = changes_leave position (index + 1) changes (after source (record { position = position; index = index; change = change }))

pub transactions_leave : (transactions : List Transaction) (source : Source) → after_all source (timed transactions) ≡ after_transactions transactions source
transactions_leave [] source = refl
transactions_leave (t ∷ ts) source =
    after_all-append source (timed_from t.position.0 0 t.changes) (timed ts)
    ∙ ap (λ s. after_all s (timed ts)) (changes_leave t.position.0 0 t.changes source)
    ∙ transactions_leave ts (after_changes t.position.0 0 t.changes source)

last_above : (last : ℕ) (ts : List Transaction) → Rises last ts → last ≤ last_position last ts
last_above last [] h = omega arith
last_above last (t ∷ ts) h = let rest = last_above t.position.0 ts h.1 in omega (arith, h.0, rest)

all_upto : (last top : ℕ) (ts : List Transaction) → Rises last ts → last_position last ts ≤ top → filter (λ t. nat_le t.position.0 top) ts ≡ ts
all_upto last top [] h le = refl
all_upto last top (t ∷ ts) h le =
    let rest = all_upto t.position.0 top ts h.1 le in
    let within = last_above t.position.0 ts h.1 in
    ap (λ b. cond b (t ∷ filter (λ t. nat_le t.position.0 top) ts) (filter (λ t. nat_le t.position.0 top) ts)) (le-leb t.position.0 top (omega (arith, within, le)))
    ∙ ap (λ xs. t ∷ xs) rest

pub source_at_last : (ts : List Transaction) → Rises 0 ts → after_all [] (timed ts) ≡ source_at ts (last_position 0 ts)
source_at_last ts h = transactions_leave ts [] ∙ sym (ap (λ xs. after_transactions xs []) (all_upto 0 (last_position 0 ts) ts h (omega arith)))

-- ---- moments

-- a version is before a moment
pub record IsEarlier (version : Version) (position index : ℕ) : Type 0 where
  pub within : version.position ≤ position
  pub before : version.position ≡ position → version.index < index

-- a moment is reached by another
pub record IsReached (position index position' index' : ℕ) : Type 0 where
  pub within : position ≤ position'
  pub before : position ≡ position' → index ≤ index'

-- changes rise from a moment on
abbrev pub MomentsRise : ℕ → ℕ → List Timed → Type 0
MomentsRise position index [] = Unit {0}
MomentsRise position index (t ∷ ts) = IsReached position index t.position t.index × MomentsRise t.position (t.index + 1) ts

changes_rise : (p i position index : ℕ) (changes : List Change) (rest : List Timed) → IsReached p i position index → ((q j : ℕ) → q ≤ position → MomentsRise q j rest)
    → MomentsRise p i (timed_from position index changes ++ rest)
changes_rise p i position index [] rest reached f = f p i reached.within
changes_rise p i position index (change ∷ changes) rest reached f =
    (reached, changes_rise position (index + 1) position (index + 1) changes rest (record { within = omega arith; before = λ e. omega arith }) f)

transactions_rise : (last p i : ℕ) (ts : List Transaction) → Rises last ts → p ≤ last → MomentsRise p i (timed ts)
transactions_rise last p i [] h le = tt
transactions_rise last p i (t ∷ ts) h le =
    let past : p < t.position.0 = omega (arith, h.0, le) in
    changes_rise p i t.position.0 0 t.changes (timed ts) (record { within = omega (arith, past); before = λ e. absurd (omega (arith, e, past)) })
    (λ q j within. transactions_rise t.position.0 q j ts h.1 within)

pub timed_rise : (ts : List Transaction) → Rises 0 ts → MomentsRise 0 0 (timed ts)
timed_rise ts h = transactions_rise 0 0 0 ts h (omega arith)
