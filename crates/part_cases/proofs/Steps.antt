-- One step of each loop over operations.
use Rattle.std.proofs.Common.{◌≡◌, ℕ, ◌+◌, ◌<◌, true, false, ◌||◌, inl, inr, List, [], ◌∷◌, ◌++◌, take, get_or, length, refl, sym, ap, ◌∙◌, arith}
use Rattle.std.proofs.lemmas.Bool.{cases_Bool, or_from}
use Rattle.std.proofs.lemmas.List.{take_more}
use Rattle.std.proofs.lemmas.List.Folds.{list_any-append}
use Rattle.ps_bucket_log.specs.declared.ops.Op.{Op}
use Rattle.ps_bucket_log.specs.Ops.{id_of, is_clear, has_clear, place_after}
use Rattle.ps_bucket_log.specs.Logs.{IsRising, rest}

taken : (ops : List Op) (i : ℕ) (op : Op) → i < length ops → op ≡ get_or ops i op → take (i + 1) ops ≡ take i ops ++ op ∷ []
taken ops i op within is = take_more ops i op within ∙ ap (λ x. take i ops ++ x ∷ []) (sym is)

rising-push : (p : ℕ) (ops : List Op) (op : Op) → IsRising p ops → place_after p ops < id_of op → IsRising p (ops ++ op ∷ [])
rising-push p [] op rising past = (past, tt)
rising-push p (x ∷ ops) op rising past = (rising.0, rising-push (id_of x) ops op rising.1 past)

last-push : (p : ℕ) (ops : List Op) (op : Op) → place_after p (ops ++ op ∷ []) ≡ id_of op
last-push p [] op = refl
last-push p (x ∷ ops) op = last-push (id_of x) ops op

pub rising_more : (ops : List Op) (i : ℕ) (op : Op) → i < length ops → op ≡ get_or ops i op
    → IsRising 0 (take i ops) → place_after 0 (take i ops) < id_of op → IsRising 0 (take (i + 1) ops)
rising_more ops i op within is rising past = rw (taken ops i op within is) (rising-push 0 (take i ops) op rising past)

pub last_more : (ops : List Op) (i : ℕ) (op : Op) → i < length ops → op ≡ get_or ops i op → place_after 0 (take (i + 1) ops) ≡ id_of op
last_more ops i op within is = rw (taken ops i op within is) (last-push 0 (take i ops) op)

pub no_clear_more : (ops : List Op) (i : ℕ) (op : Op) → i < length ops → op ≡ get_or ops i op
    → has_clear (take i ops) ≡ false → is_clear op ≡ false → has_clear (take (i + 1) ops) ≡ false
no_clear_more ops i op within is none other =
    rw (taken ops i op within is) (list_any-append is_clear (take i ops) (op ∷ [])
    ∙ or_from (has_clear (take i ops)) (is_clear op || false) none (or_from (is_clear op) false other refl))

pub no_clear_rest : (op : Op) (ops : List Op) → has_clear ops ≡ false → has_clear (rest (op ∷ ops)) ≡ false
no_clear_rest op ops none = elim (cases_Bool (is_clear op)) [
  | inl clear ↦ rw clear none
  | inr other ↦ rw other (or_from (is_clear op) (has_clear ops) other none)
]
