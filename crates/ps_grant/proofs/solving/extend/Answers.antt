use Rattle.std.proofs.Common.{List, [], ◌∷◌, ◌++◌, map, ap, ◌∙◌}
use Rattle.ps_data.specs.declared.values.Value.{Value}
use Rattle.ps_grant.proofs.ExtendLaws.{front_extended}
use Rattle.ps_grant.proofs.solving.extend.Goals as goal

pub fronts-preserved : goal.fronts-preserved
fronts-preserved c =
    front_extended c.args.fronts.now c.fronts.front-index c.front-item.result c.args.values.now c.fronts.longer c.extend_one.new.longer c.fronts-test.true c.front-item.is
    (c.in_ok-extend_one.ensures ∙ ap (λ (f : List Value). c.fronts.longer ++ map (λ (v : Value). f ++ v ∷ []) c.args.values.now) c.as_slice.ensures)
    ∙ c.fronts.invariant
