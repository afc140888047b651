use Rattle.std.proofs.Common.{◌≡◌, [], ◌∷◌, ◌++◌, map, take, arith, string_bytes, sym, ap, ◌∙◌, subst, append_assoc}
use Rattle.std.specs.List.Sorted.{IsStrictlySortedBy}
use Rattle.std.specs.Map.{keys_of}
use Rattle.std.specs.String.{string_cmp}
use Rattle.std.proofs.lemmas.List.{take_all}
use Rattle.serde_json.specs.View.{view, items_of}
use Rattle.serde_json.proofs.Views.{Entry}
use Rattle.ps_data.specs.Conversions.{plain_of}
use Rattle.ps_values.proofs.Faults.{plain_each, plain_more}
use Rattle.ps_values.proofs.conversions.+plain.Goals as goal

pub plain_items-returns : goal.plain_items-returns
plain_items-returns t c =
    let xs = c.deref-item-items.result.now in
    let whole : take c.items.item-index xs ≡ c.args.items.now.items = take_all c.items.item-index xs (omega arith) ∙ c.deref-item-items.ensures.value in
    ap items_of (c.items.invariant ∙ ap (map (λ json. plain_of (view json))) whole) ∙ plain_each c.args.items.now.items

pub plain_members-members-preserved : goal.plain_members-members-preserved
plain_members-members-preserved t c =
    let done = c.members.invariant.2 in
    let e : Entry = (c.in-Some.name.now, c.in-Some.member.now) in
    let left = c.next.new.self in
    let all : c.args.members.now.entries ≡ done ++ e ∷ left = c.members.invariant.3 ∙ ap (λ es. done ++ es) c.in-Some.ensures.steps in
    let more = plain_more done left e (subst (λ es. IsStrictlySortedBy string_cmp (keys_of es)) all c.iter-name-items.ensures.ordered) in
    let named : string_bytes c.in_ok-name.name ≡ string_bytes e.0 = c.in_ok-name.ensures.ok ∙ c.as_str.ensures.value in (
      tt,
      tt,
      done ++ e ∷ [],
      all ∙ sym (append_assoc done (e ∷ []) left),
      rw (c.in_ok-put_member.ensures, named, c.in_ok-plain_value.ensures, c.members.invariant.4) more,
    )
