use Rattle.std.proofs.Common.{◌≡◌, ℕ, List, [], ◌∷◌, ◌++◌, refl, sym, ap, ◌∙◌, subst}
use Rattle.std.specs.Prelude.{if◌then◌else◌, bytes_eq}
use Rattle.std.specs.BTreeMap.{BTreeMap}
use Rattle.std.specs.Option.{IsSome}
use Rattle.ps_params.specs.Numbers.{numbers_at}
use Rattle.ps_params.specs.Places.{places_or_none}
use Rattle.ps_params.proofs.Numbered.{number_put}
use Rattle.ps_params.proofs.paths.add_number.Goals as goal

pub returns-in-Some : goal.returns-in-Some
returns-in-Some c =
    number_put c.args.numbers.now (c.get_mut.follows.lender c.push.new.self) c.args.table.now c.args.table.now c.args.number c.in-Some.places.now c.push.new.self refl c.in_ok-push.ensures.ok
    (ap places_or_none (sym c.in-Some.ensures.value))
    ((c.get_mut.follows.holds c.push.new.self).3 (subst IsSome c.in-Some.ensures.value refl)).0

pub returns : goal.returns
returns c =
    let none : c.get_mut.follows.lender-at-none ≡ c.args.numbers.now = c.get_mut.follows.holds-at-none in
    subst (λ (m : BTreeMap (List ℕ) (List ℕ)). (other : List ℕ) → numbers_at c.insert.new.self other ≡ (if bytes_eq c.args.table.now other then numbers_at m other ++ c.args.number ∷ [] else numbers_at m other)) none
    (number_put c.get_mut.follows.lender-at-none c.insert.new.self c.args.table.now c.in_ok-copy.field-0 c.args.number [] c.push-2.new.self c.in_ok-copy.ensures
    (c.in_ok-push-2.ensures.ok ∙ ap (λ (ns : List ℕ). ns ++ c.args.number ∷ []) c.new-places.ensures)
    (ap (λ (m : BTreeMap (List ℕ) (List ℕ)). numbers_at m c.args.table.now) none ∙ ap places_or_none (sym c.in_default.ensures.value))
    c.in_ok-insert.ensures.updates.0)
