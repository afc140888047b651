use Rattle.std.proofs.Common.{◌≡◌, ℕ, ◌+◌, Bool, true, false, Some, None, List, refl, sym, ap, ◌∙◌, subst, arith, unwrap_or}
use Rattle.std.specs.Option.{IsSome}
use Rattle.std.specs.Prelude.{bytes_eq, if◌then◌else◌}
use Rattle.std.specs.BTreeMap.{BTreeMap, get}
use Rattle.std.specs.Cmp.Lexicographic.{slice_cmp}
use Rattle.std.specs.Ordering.{nat_cmp}
use Rattle.ps_store.proofs.Maps.{Puts, tied, equal, read_changed}
use Rattle.ps_store.proofs.rooms.give.Goals as goal

plus : (n : ℕ) (b : Bool) → (if b then n + 1 else n) ≡ n + (if b then 1 else 0)
plus n true = refl
plus n false = omega arith

pub returns-in-Some : goal.returns-in-Some
returns-in-Some c =
    let w : ℕ = c.in-Some.room.now + 1 in
    let there : Some c.in-Some.room.now ≡ get (slice_cmp nat_cmp) c.args.rooms.now c.args.name.now = c.in-Some.ensures.value in
    let puts : Puts (slice_cmp nat_cmp) c.args.rooms.now (c.get_mut.follows.lender w) c.args.name.now w = ((c.get_mut.follows.holds w).3 (subst IsSome c.in-Some.ensures.value refl)).0 in
    λ other.
    read_changed (slice_cmp nat_cmp) bytes_eq tied equal (λ o. unwrap_or o 0) (λ n. n + 1) c.args.rooms.now (c.get_mut.follows.lender w) c.args.name.now (Some w) puts
    (ap (λ o. unwrap_or o 0 + 1) there) other
    ∙ plus (unwrap_or (get (slice_cmp nat_cmp) c.args.rooms.now other) 0) (bytes_eq other c.args.name.now)

pub returns : goal.returns
returns c =
    let none : get (slice_cmp nat_cmp) c.args.rooms.now c.args.name.now ≡ None = sym c.in_default.ensures.value in
    let put : Puts (slice_cmp nat_cmp) c.get_mut.follows.lender-at-none c.insert.new.self c.in_ok-copy.field-0 1 = c.in_ok-insert.ensures.updates.0 in
    let puts : Puts (slice_cmp nat_cmp) c.args.rooms.now c.insert.new.self c.args.name.now 1 =
    subst (λ k. Puts (slice_cmp nat_cmp) c.args.rooms.now c.insert.new.self k 1) c.in_ok-copy.ensures
    (subst (λ (m : BTreeMap (List ℕ) ℕ). Puts (slice_cmp nat_cmp) m c.insert.new.self c.in_ok-copy.field-0 1) c.get_mut.follows.holds-at-none put) in
    λ other.
    read_changed (slice_cmp nat_cmp) bytes_eq tied equal (λ o. unwrap_or o 0) (λ n. n + 1) c.args.rooms.now c.insert.new.self c.args.name.now (Some 1) puts
    (ap (λ o. unwrap_or o 0 + 1) (sym none)) other
    ∙ plus (unwrap_or (get (slice_cmp nat_cmp) c.args.rooms.now other) 0) (bytes_eq other c.args.name.now)
