-- One step of each loop over operations.
use Rattle.std.proofs.Common.{◌≡◌, None, ℕ, suc, ◌+◌, ◌%◌, ◌^◌, ◌<◌, ◌≤◌, true, false, List, [], ◌∷◌, ◌++◌, take, drop, get_or, length, sum_by, refl, sym, ap, ◌∙◌, arith, add-one, drop-cons}
use Rattle.std.proofs.lemmas.List.{take_more, drop_all}
use Rattle.std.proofs.lemmas.List.Sums.{sum_by_push}
use Rattle.std.proofs.Math.Nat.{mod-add-mod}
use Rattle.ps_bucket_log.specs.declared.ops.Op.{Op}
use Rattle.ps_bucket_log.specs.Ops.{checksum, target_of, is_put, sum_of, later_id, greatest_target}
use Rattle.ps_compact.specs.Compaction.{front_count}

-- what is behind the first i operations, from the next one on
pub behind : (ops : List Op) (i : ℕ) (op : Op) → i < length ops → op ≡ get_or ops i op → drop i ops ≡ op ∷ drop (i + 1) ops
behind ops i op within is = rw add-one (drop-cons ops i op within ∙ ap (λ x. x ∷ drop (suc i) ops) (sym is))

pub front_more : (ops : List Op) (i : ℕ) (op : Op) → i < length ops → op ≡ get_or ops i op → is_put op ≡ false
    → (i + 1) + front_count (drop (i + 1) ops) ≡ i + front_count (drop i ops)
front_more ops i op within is other =
    let here : front_count (drop i ops) ≡ suc (front_count (drop (i + 1) ops)) = ap front_count (behind ops i op within is) ∙ rw other refl in
    omega (arith, here)

pub front_ends : (ops : List Op) (i : ℕ) (op : Op) → i < length ops → op ≡ get_or ops i op → is_put op ≡ true
    → front_count (drop i ops) ≡ 0
front_ends ops i op within is put = ap front_count (behind ops i op within is) ∙ rw put refl

pub sum_of_more : (ops : List Op) (i : ℕ) (op : Op) → i < length ops → op ≡ get_or ops i op
    → sum_of (take (i + 1) ops) ≡ (sum_of (take i ops) + checksum op) % 2 ^ 32
sum_of_more ops i op within is =
    ap sum_of (take_more ops i op within ∙ ap (λ x. take i ops ++ x ∷ []) (sym is))
    ∙ ap (λ n. n % 2 ^ 32) (sum_by_push checksum (take i ops) op)
    ∙ sym (mod-add-mod (sum_by checksum (take i ops)) (2 ^ 32) (checksum op))

pub greatest_target_more : (ops : List Op) (i : ℕ) (op : Op) → i < length ops → op ≡ get_or ops i op
    → greatest_target (drop i ops) ≡ later_id (target_of op) (greatest_target (drop (i + 1) ops))
greatest_target_more ops i op within is = ap greatest_target (behind ops i op within is)

pub greatest_target_none : (ops : List Op) (i : ℕ) → length ops ≤ i → greatest_target (drop i ops) ≡ None
greatest_target_none ops i past = ap greatest_target (drop_all i ops past)
