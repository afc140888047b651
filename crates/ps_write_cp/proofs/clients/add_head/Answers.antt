use Rattle.std.proofs.Common.{◌≡◌, ℕ, List, [], ◌∷◌, ◌++◌, refl, sym, ap, ◌∙◌, subst}
use Rattle.std.specs.Prelude.{if◌then◌else◌, bytes_eq, unwrap_or}
use Rattle.std.specs.BTreeMap.{BTreeMap}
use Rattle.std.specs.Option.{IsSome}
use Rattle.ps_data.specs.declared.ids.Position.{Position}
use Rattle.ps_write_cp.specs.Kept.{heads_among}
use Rattle.ps_write_cp.proofs.Heads.{heads_more, heads_kept}
use Rattle.ps_write_cp.proofs.Rising.{on_err}
use Rattle.ps_write_cp.proofs.clients.add_head.Goals as goal

pub returns-in_err-push-clause-err : goal.returns-in_err-push-clause-err
returns-in_err-push-clause-err c =
    on_err c.from_residual.result
    (heads_kept c.args.heads.now (c.get_mut.follows.lender c.push.new.self) c.args.client.now c.push.new.self
    ((c.get_mut.follows.holds c.push.new.self).3 (subst IsSome c.in-Some.ensures.value refl)).0
    (c.in_err-push.ensures.err ∙ ap (λ o. unwrap_or o []) c.in-Some.ensures.value))

pub returns-in-Some-clause-ok : goal.returns-in-Some-clause-ok
returns-in-Some-clause-ok c =
    heads_more c.args.heads.now (c.get_mut.follows.lender c.push.new.self) c.args.client.now c.push.new.self
    ((c.get_mut.follows.holds c.push.new.self).3 (subst IsSome c.in-Some.ensures.value refl)).0 c.args.head
    (c.in_ok-push.ensures.ok ∙ ap (λ o. unwrap_or o [] ++ c.args.head ∷ []) c.in-Some.ensures.value)

pub returns-clause-ok : goal.returns-clause-ok
returns-clause-ok c =
    let none : c.get_mut.follows.lender-at-none ≡ c.args.heads.now = c.get_mut.follows.holds-at-none in
    subst
    (λ (m : BTreeMap (List ℕ) (List Position)). (other : List ℕ) → heads_among c.insert.new.self.entries other
    ≡ (if bytes_eq other c.args.client.now then heads_among m.entries other ++ c.args.head ∷ [] else heads_among m.entries other))
    none
    (subst
    (λ key. (other : List ℕ) → heads_among c.insert.new.self.entries other
    ≡ (if bytes_eq other key then heads_among c.get_mut.follows.lender-at-none.entries other ++ c.args.head ∷ [] else heads_among c.get_mut.follows.lender-at-none.entries other))
    c.in_ok-copy.ensures
    (heads_more c.get_mut.follows.lender-at-none c.insert.new.self c.in_ok-copy.field-0 c.push-2.new.self c.in_ok-insert.ensures.updates.0 c.args.head
    (c.in_ok-push-2.ensures.ok ∙ ap (λ (heads : List Position). heads ++ c.args.head ∷ []) (c.new-first.ensures ∙ ap (λ o. unwrap_or o []) c.in_default.ensures.value
    ∙ ap (λ (m : BTreeMap (List ℕ) (List Position)). heads_among m.entries c.args.client.now) (sym none)
    ∙ ap (λ key. heads_among c.get_mut.follows.lender-at-none.entries key) (sym c.in_ok-copy.ensures)))))
