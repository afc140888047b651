use Rattle.std.proofs.Common.{ap, ◌∙◌}
use Rattle.std.specs.List.{list_any}
use Rattle.ps_grant.specs.Solving.{is_same}
use Rattle.ps_grant.proofs.VectorLaws.{has_same}
use Rattle.ps_grant.proofs.vectors.VectorSet.has.Goals as goal

pub returns : goal.returns
returns c =
    c.contains.ensures ∙ has_same (λ v. v.items) _ c.values_are_in_order.ensures c.args.vector.now c.self.inside.known.keys
    ∙ ap (list_any (is_same c.args.vector.now)) c.self.view_is
