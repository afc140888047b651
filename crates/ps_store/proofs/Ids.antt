-- Operations by their ids: those from a first one on and below another, and those up to one.
use Rattle.std.proofs.Common.{◌≡◌, ℕ, ◌+◌, ◌≤◌, ◌<◌, Bool, true, false, cond, List, [], ◌∷◌, ◌++◌, refl, ap, ◌∙◌, length, map, arith}
use Rattle.std.specs.Prelude.{filter, bytes_eq}
use Rattle.ps_bucket_log.specs.Ops.{id_of, upto}
use Rattle.ps_rows.specs.Source.{Source}
use Rattle.ps_definitions.specs.declared.definitions.Definition.{Definition}
use Rattle.ps_bucket_eval.specs.declared.placed.Placed.{Placed}
use Rattle.ps_store.specs.Originals.{Entered, Timed, removed, put, numbered, leaving, written, standing_entries, entries_at, key_of, change_ops, in_bucket}
use Rattle.ps_store.specs.Steps.{marked}
use Rattle.ps_store.proofs.Fronts.{not_le, is_le}
use Rattle.ps_store.proofs.Replays.{length-written}

-- the ids are from a first one on, and below another
abbrev pub AreBetween : ℕ → ℕ → List Entered → Type 0
AreBetween low high [] = Unit {0}
AreBetween low high (e ∷ es) = (low ≤ id_of e.op) × (id_of e.op < high) × AreBetween low high es

pub between_wider : (low high less more : ℕ) (es : List Entered) → less ≤ low → high ≤ more → AreBetween low high es → AreBetween less more es
between_wider low high less more [] l m h = tt
between_wider low high less more (e ∷ es) l m h = (omega (arith, l, h.0), omega (arith, m, h.1), between_wider low high less more es l m h.2)

pub between_append : (low high : ℕ) (xs ys : List Entered) → AreBetween low high xs → AreBetween low high ys → AreBetween low high (xs ++ ys)
between_append low high [] ys h k = k
between_append low high (x ∷ xs) ys h k = (h.0, h.1, between_append low high xs ys h.2 k)

numbered_between : (make : ℕ → Placed → Entered) → ((id : ℕ) (x : Placed) → id_of (make id x).op ≡ id) → (next : ℕ) (xs : List Placed) → AreBetween next (next + length xs) (numbered make next xs)
numbered_between make is next [] = tt
numbered_between make is next (x ∷ xs) =
    let rest = numbered_between make is (next + 1) xs in
    (omega (arith, is next x), omega (arith, is next x), between_wider (next + 1) (next + 1 + length xs) next (next + length (x ∷ xs)) (numbered make (next + 1) xs) (omega arith) (omega arith) rest)

pub written_between : (next : ℕ) (old new : List Placed) → AreBetween next (next + length (written next old new)) (written next old new)
written_between next old new =
    let gone : List Placed = leaving old new in
    let count = length-written next old new in
    between_append next (next + length (written next old new)) (numbered removed next gone) (numbered put (next + length gone) new)
    (between_wider next (next + length gone) next (next + length (written next old new)) (numbered removed next gone) (omega arith) (omega (arith, count)) (numbered_between removed (λ id x. refl) next gone))
    (between_wider (next + length gone) (next + length gone + length new) next (next + length (written next old new)) (numbered put (next + length gone) new) (omega arith) (omega (arith, count)) (numbered_between put (λ id x. refl) (next + length gone) new))

-- those of a change
pub change_between : (definitions : List Definition) (source : Source) (next : ℕ) (t : Timed) → AreBetween next (next + length (change_ops definitions source next t)) (change_ops definitions source next t)
change_between definitions source next t = written_between next (standing_entries definitions source (key_of t)) (entries_at definitions (key_of t) t.change.row)

pub between_marked : (mark : List ℕ) (low high : ℕ) (es : List Entered) → AreBetween low high es → AreBetween low high (marked mark es)
between_marked mark low high [] h = tt
between_marked mark low high (e ∷ es) h = (h.0, h.1, between_marked mark low high es h.2)

-- ---- up to an id

abbrev entries_in : List ℕ → List Entered → List Entered
entries_in bucket es = filter (λ (x : Entered). bytes_eq bucket x.bucket) es

pub up_all : (bucket : List ℕ) (c low high : ℕ) (es : List Entered) → AreBetween low high es → high ≤ c + 1 → upto c (in_bucket bucket es) ≡ in_bucket bucket es
up_all bucket c low high [] h le = refl
up_all bucket c low high (e ∷ es) h le = by (bytes_eq bucket e.bucket) (up_all bucket c low high es h.2 le)
  where
    by : (b : Bool) → upto c (in_bucket bucket es) ≡ in_bucket bucket es
        → upto c (map (λ (x : Entered). x.op) (cond b (e ∷ entries_in bucket es) (entries_in bucket es))) ≡ map (λ (x : Entered). x.op) (cond b (e ∷ entries_in bucket es) (entries_in bucket es))
    by true more =
        ap (λ b. cond b (e.op ∷ upto c (in_bucket bucket es)) (upto c (in_bucket bucket es))) (is_le (id_of e.op) c (omega (arith, h.1, le)))
        ∙ ap (λ ops. e.op ∷ ops) more
    by false more = more

pub up_none : (bucket : List ℕ) (c low high : ℕ) (es : List Entered) → AreBetween low high es → c < low → upto c (in_bucket bucket es) ≡ []
up_none bucket c low high [] h less = refl
up_none bucket c low high (e ∷ es) h less = by (bytes_eq bucket e.bucket) (up_none bucket c low high es h.2 less)
  where
    by : (b : Bool) → upto c (in_bucket bucket es) ≡ [] → upto c (map (λ (x : Entered). x.op) (cond b (e ∷ entries_in bucket es) (entries_in bucket es))) ≡ []
    by true more = ap (λ b. cond b (e.op ∷ upto c (in_bucket bucket es)) (upto c (in_bucket bucket es))) (not_le (id_of e.op) c (omega (arith, h.0, less))) ∙ more
    by false more = more
