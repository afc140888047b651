use Rattle.std.proofs.Common.{◌≡◌, ℕ, List, [], ◌∷◌, ◌++◌, ◌&&◌, refl, sym, ap, ◌∙◌, subst}
use Rattle.std.specs.Prelude.{if◌then◌else◌, bytes_eq, unwrap_or}
use Rattle.std.specs.BTreeMap.{BTreeMap}
use Rattle.std.specs.Option.{IsSome}
use Rattle.ps_write_cp.specs.Kept.{Clients, heads_among, clients_among, heads_under}
use Rattle.ps_write_cp.proofs.Heads.{users_more, users_kept}
use Rattle.ps_write_cp.proofs.Rising.{on_err}
use Rattle.ps_write_cp.proofs.numbers.add.Goals as goal

pub returns-in_err-add-clause-err : goal.returns-in_err-add-clause-err
returns-in_err-add-clause-err c =
    on_err c.from_residual.result
    (users_kept c.args.users.now (c.get_mut.follows.lender c.add.new.self) c.args.user.now c.add.new.self
    ((c.get_mut.follows.holds c.add.new.self).3 (subst IsSome c.in-Some.ensures.value refl)).0
    (λ device. c.in_err-add.ensures.err device ∙ ap (λ o. heads_among (unwrap_or o []) device) c.in-Some.ensures.value))

pub returns-in-Some-clause-ok : goal.returns-in-Some-clause-ok
returns-in-Some-clause-ok c =
    users_more c.args.users.now (c.get_mut.follows.lender c.add.new.self) c.args.user.now c.add.new.self
    ((c.get_mut.follows.holds c.add.new.self).3 (subst IsSome c.in-Some.ensures.value refl)).0 c.args.client.now c.args.head
    (λ device. c.in_ok-add.ensures.ok device
    ∙ ap (λ (clients : Clients). if bytes_eq device c.args.client.now then heads_among clients device ++ c.args.head ∷ [] else heads_among clients device) (ap (λ o. unwrap_or o []) c.in-Some.ensures.value))

pub returns-clause-ok : goal.returns-clause-ok
returns-clause-ok c =
    let none : c.get_mut.follows.lender-at-none ≡ c.args.users.now = c.get_mut.follows.holds-at-none in
    let user : c.in_ok-copy.field-0 ≡ c.args.user.now = c.in_ok-copy.ensures in
    let start : c.new-clients.result ≡ clients_among c.get_mut.follows.lender-at-none.entries c.in_ok-copy.field-0 =
    c.new-clients.ensures ∙ ap (λ o. unwrap_or o []) c.in_default.ensures.value
    ∙ ap (λ (m : BTreeMap (List ℕ) Clients). clients_among m.entries c.args.user.now) (sym none)
    ∙ ap (λ key. clients_among c.get_mut.follows.lender-at-none.entries key) (sym user) in
    subst
    (λ (m : BTreeMap (List ℕ) Clients). (other device : List ℕ) → heads_under c.insert.new.self.entries other device
    ≡ (if bytes_eq other c.args.user.now && bytes_eq device c.args.client.now then heads_under m.entries other device ++ c.args.head ∷ [] else heads_under m.entries other device))
    none
    (subst
    (λ key. (other device : List ℕ) → heads_under c.insert.new.self.entries other device
    ≡ (if bytes_eq other key && bytes_eq device c.args.client.now then heads_under c.get_mut.follows.lender-at-none.entries other device ++ c.args.head ∷ [] else heads_under c.get_mut.follows.lender-at-none.entries other device))
    user
    (users_more c.get_mut.follows.lender-at-none c.insert.new.self c.in_ok-copy.field-0 c.add-2.new.self c.in_ok-insert.ensures.updates.0 c.args.client.now c.args.head
    (λ device. c.in_ok-add-2.ensures.ok device
    ∙ ap (λ (clients : Clients). if bytes_eq device c.args.client.now then heads_among clients device ++ c.args.head ∷ [] else heads_among clients device) start)))
