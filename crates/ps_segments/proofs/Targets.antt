-- The greatest target of a list is found from its front.
use Rattle.std.proofs.Common.{◌≡◌, ℕ, ◌+◌, ◌<◌, inl, inr, Option, Some, None, List, [], ◌∷◌, ◌++◌, take, get_or, length, refl, sym, ap, ◌∙◌, arith}
use Rattle.std.proofs.lemmas.Bool.{cases_lt, lt-ltb, le-ltb}
use Rattle.std.proofs.lemmas.List.{take_more}
use Rattle.ps_data.specs.declared.ids.OpId.{OpId}
use Rattle.ps_bucket_log.specs.declared.ops.Op.{Op}
use Rattle.ps_bucket_log.specs.Ops.{target_of, later_id, greatest_target}

later_id-None : (a : Option OpId) → later_id a None ≡ a
later_id-None None = refl
later_id-None (Some a) = refl

later_id-assoc : (a b c : Option OpId) → later_id (later_id a b) c ≡ later_id a (later_id b c)
later_id-assoc None b c = refl
later_id-assoc (Some a) None c = refl
later_id-assoc (Some a) (Some b) None = later_id-None (later_id (Some a) (Some b))
later_id-assoc (Some a) (Some b) (Some c) = elim (cases_lt a.0 b.0) [
  | inl ab ↦ elim (cases_lt b.0 c.0) [
    | inl bc ↦ rw (lt-ltb a.0 b.0 ab, lt-ltb b.0 c.0 bc, lt-ltb a.0 c.0 (omega arith)) refl
    | inr cb ↦ rw (lt-ltb a.0 b.0 ab, le-ltb b.0 c.0 cb, lt-ltb a.0 b.0 ab) refl
  ]
  | inr ba ↦ elim (cases_lt b.0 c.0) [
    | inl bc ↦ rw (le-ltb a.0 b.0 ba, lt-ltb b.0 c.0 bc) refl
    | inr cb ↦ rw (le-ltb a.0 b.0 ba, le-ltb b.0 c.0 cb, le-ltb a.0 b.0 ba, le-ltb a.0 c.0 (omega arith)) refl
  ]
]

greatest_target-push : (ops : List Op) (op : Op) → greatest_target (ops ++ op ∷ []) ≡ later_id (greatest_target ops) (target_of op)
greatest_target-push [] op = later_id-None (target_of op)
greatest_target-push (first ∷ ops) op =
    ap (later_id (target_of first)) (greatest_target-push ops op) ∙ sym (later_id-assoc (target_of first) (greatest_target ops) (target_of op))

pub greatest_target_more : (ops : List Op) (i : ℕ) (op : Op) → i < length ops → op ≡ get_or ops i op
    → greatest_target (take (i + 1) ops) ≡ later_id (greatest_target (take i ops)) (target_of op)
greatest_target_more ops i op within is =
    ap greatest_target (take_more ops i op within ∙ ap (λ x. take i ops ++ x ∷ []) (sym is)) ∙ greatest_target-push (take i ops) op
