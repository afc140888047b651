use Rattle.std.proofs.Common.{◌≡◌, ap, ◌∙◌, arith}
use Rattle.ps_store.specs.declared.fixed.Fixed.{Fixed}
use Rattle.ps_store.specs.declared.fixed.Limits.{Limits}
use Rattle.ps_store.proofs.Beginning.{deploy_done}
use Rattle.ps_store.proofs.stores.Store.deploy.Goals as goal

pub returns : goal.returns
returns c = λ fixed history h.
    let ops : c.limits.result.now.generations ≡ c.args.self.now.fixed.limits.generations = ap (λ (x : Limits). x.generations) c.limits.ensures in
    let by : c.in_ok-building.building.by ≡ record { rules = c.args.rules; limits = c.args.self.now.fixed.limits } =
    c.in_ok-building.ensures.by ∙ c.in_ok-new.ensures ∙ ap (λ (x : Limits). record { rules = c.args.rules; limits = x }) c.limits-limits.ensures in
    deploy_done fixed c.args.self.now history h c.args.rules c.have_numbers.ensures.rules c.have_numbers.ensures.numbers c.in_default.is (omega (arith, ops))
    c.make_places.new.self c.in_ok-make_places.ensures.alike c.in_ok-building.building c.in_ok-make_places.ensures.force c.in_ok-make_places.ensures.coming
    c.in_ok-building.ensures.number c.in_ok-building.ensures.mark by c.in_ok-building.ensures.logs c.in_ok-building.ensures.rows
    (c.in_ok-building.ensures.index_rules ∙ ap (λ (f : Fixed). f.rules) c.in_ok-new.ensures)
    c.in_ok-building.ensures.index_notes c.in_ok-building.ensures.index_last c.in_ok-building.ensures.index_forgotten c.in_ok-building.ensures.queue
