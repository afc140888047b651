use Rattle.std.proofs.Common.{rules, ◌≡◌, List, ◌∷◌, [], Option, Some, sym, subst}
use Rattle.atomic_table.specs.Table.{opening}
use Rattle.ps_lock.specs.Rule.{KeepsRule, first_view}
use Rattle.ps_lock.proofs.Keeping.{starts}
use Rattle.ps_lock.proofs.locks.open_lock.Goals as goal

pub new-requires : goal.new-requires
new-requires g c = let same : c.of-opening.result.value ≡ c.args.value = search rules in let one : c.push.new.self.items ≡ Some c.args.value ∷ [] = search rules in
    subst (λ (z : g.row.V.Denot × List (Option g.row.V.Denot)). KeepsRule g.V.Kept.set_by g.V.Kept.stands z.0 (opening (0 ∷ 0 ∷ 0 ∷ []) z.1 (first_view z.0)))
    (λ i. (sym same i, sym one i)) (starts g.V.Kept.set_by g.V.Kept.stands c.args.value c.requires)
