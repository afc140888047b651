-- Counts of lists that were built from the end, and cuts at a count.
use Rattle.std.proofs.Common.{◌≡◌, ℕ, ◌+◌, ◌≤◌, inl, inr, Option, List, [], ◌∷◌, ◌++◌, take, drop, length, filter, is_some, reverse, refl, sym, ap, ◌∙◌, arith}
use Rattle.std.proofs.lemmas.Bool.{cases_lt, lt-leb, le-leb}
use Rattle.std.proofs.lemmas.List.{reverse-append, length-append, take_at, drop_at}
use Rattle.std.proofs.lemmas.List.Elements.{filter-append}
use Rattle.ps_data.specs.declared.ids.OpId.{OpId}
use Rattle.ps_bucket_log.specs.declared.ops.Op.{Op}
use Rattle.ps_bucket_log.specs.Ops.{id_of, upto, past}
use Rattle.ps_bucket_log.specs.Logs.{IsRising}
use Rattle.ps_compact.specs.declared.reports.Report.{Report}
use Rattle.ps_compact.specs.Compaction.{targets_of, moved, cleared_count, with_clear, compacted, report_of}
use Rattle.ps_compact.proofs.Kept.{upto-past}

one-more : (x : Option OpId) (n : ℕ) → n + length (filter is_some (x ∷ [])) ≡ length (filter is_some (x ∷ [])) + n
one-more x n = omega arith

filter-cons : (x : Option OpId) (xs : List (Option OpId)) → length (filter is_some (x ∷ xs)) ≡ length (filter is_some (x ∷ [])) + length (filter is_some xs)
filter-cons x xs = ap length (filter-append is_some (x ∷ []) xs) ∙ length-append (filter is_some (x ∷ [])) (filter is_some xs)

-- how many there are does not depend on the order
pub count-reverse : (xs : List (Option OpId)) → length (filter is_some (reverse xs)) ≡ length (filter is_some xs)
count-reverse [] = refl
count-reverse (x ∷ xs) =
    ap (λ ys. length (filter is_some ys)) (reverse-append (x ∷ []) xs)
    ∙ ap length (filter-append is_some (reverse xs) (x ∷ []))
    ∙ length-append (filter is_some (reverse xs)) (filter is_some (x ∷ []))
    ∙ ap (λ n. n + length (filter is_some (x ∷ []))) (count-reverse xs)
    ∙ one-more x (length (filter is_some xs)) ∙ sym (filter-cons x xs)

pub count-targets : (targets all : List (Option OpId)) → reverse targets ≡ all → length (filter is_some targets) ≡ length (filter is_some all)
count-targets targets all is = sym (count-reverse targets) ∙ ap (λ xs. length (filter is_some xs)) is

-- as many as there are up to an id are those up to it
pub cut_upto : (level n : ℕ) (log : List Op) → IsRising 0 log → n ≡ length (upto level log) → (take n log ≡ upto level log) × (drop n log ≡ past level log)
cut_upto level n log rising is =
    let whole : log ≡ upto level log ++ past level log = sym (upto-past level 0 log rising) in (
      ap (take n) whole ∙ take_at (upto level log) (past level log) n (sym is),
      ap (drop n) whole ∙ drop_at (upto level log) (past level log) n (sym is),
    )

pub upto-within : (level : ℕ) (log : List Op) → length (upto level log) ≤ length log
upto-within level [] = omega arith
upto-within level (op ∷ ops) = elim (cases_lt level (id_of op)) [
  | inl above ↦ rw (lt-leb (id_of op) level above) (omega (arith, upto-within level ops))
  | inr below ↦ rw (le-leb (id_of op) level below) (omega (arith, upto-within level ops))
]

-- what is made of the first n operations and of the others is the compacted log
pub compacted_parts : (level n : ℕ) (items log : List Op) → items ≡ log → IsRising 0 log → n ≡ length (upto level log)
    → with_clear (moved (take n items)) ++ drop n items ≡ compacted level log
compacted_parts level n items log same rising is =
    let cut = cut_upto level n log rising is in
    rw (same, cut.0, cut.1) refl

pub report_parts : (level n : ℕ) (items log : List Op) (moves cleared before after : ℕ) → items ≡ log → IsRising 0 log → n ≡ length (upto level log)
    → moves ≡ length (filter is_some (targets_of (take n items))) → cleared ≡ cleared_count (moved (take n items)) → before ≡ length items
    → after ≡ length (with_clear (moved (take n items)) ++ drop n items)
    → ◌≡◌ {A = Report} (record { moved = moves; cleared = cleared; before = before; after = after }) (report_of level log)
report_parts level n items log moves cleared before after same rising is moves_is cleared_is before_is after_is =
    let cut = cut_upto level n log rising is in
    let front : take n items ≡ upto level log = ap (take n) same ∙ cut.0 in
    let a : moves ≡ length (filter is_some (targets_of (upto level log))) = moves_is ∙ ap (λ ops. length (filter is_some (targets_of ops))) front in
    let b : cleared ≡ cleared_count (moved (upto level log)) = cleared_is ∙ ap (λ ops. cleared_count (moved ops)) front in
    let d : before ≡ length log = before_is ∙ ap length same in
    let e : after ≡ length (compacted level log) = after_is ∙ ap length (compacted_parts level n items log same rising is) in
    λ i. record { moved = a i; cleared = b i; before = d i; after = e i }
