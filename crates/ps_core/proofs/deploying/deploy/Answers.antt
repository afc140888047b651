use Rattle.std.proofs.Common.{Ok, Err, ap, subst, ◌∙◌}
use Rattle.ps_definitions.specs.RuleSets.{RuleSet}
use Rattle.ps_store.specs.declared.deploying.DeployFault.TheVariants as faults
use Rattle.ps_store.specs.Deploys.{Deploys}
use Rattle.ps_core.proofs.NewRules.{building_so, deployed_so, generations_full}
use Rattle.ps_core.proofs.deploying.deploy.Goals as goal

pub returns-in-Ok : goal.returns-in-Ok
returns-in-Ok c = λ fixed play stands next.
    deployed_so fixed play c.deploy.new.self c.args.next.now c.in-Ok.generation next
    (subst (λ (r : RuleSet). Deploys fixed play.history r c.deploy.new.self (Ok c.in-Ok.generation)) c.in_ok-rules.ensures (c.in-Ok.ensures fixed play.history stands))

pub returns-in-Err-Building : goal.returns-in-Err-Building
returns-in-Err-Building c = λ fixed play stands next.
    building_so fixed play c.deploy.new.self c.args.next.now c.in-Err-Building.generation next
    (subst (λ (r : RuleSet). Deploys fixed play.history r c.deploy.new.self (Err (faults.Building c.in-Err-Building.generation))) c.in_ok-rules.ensures
    (rw (c.in-Err-Building.is ∙ ap Err c.in-Err-Building.field-0-is) at (c.deploy.ensures fixed play.history stands)))

pub returns-in-Err-GenerationFull : goal.returns-in-Err-GenerationFull
returns-in-Err-GenerationFull c = λ fixed play stands next.
    generations_full fixed play c.deploy.new.self c.args.next.now c.in-Err-GenerationFull.last next
    (subst (λ (r : RuleSet). Deploys fixed play.history r c.deploy.new.self (Err (faults.GenerationFull c.in-Err-GenerationFull.last))) c.in_ok-rules.ensures
    (rw (c.in-Err-GenerationFull.is ∙ ap Err c.in-Err-GenerationFull.field-0-is) at (c.deploy.ensures fixed play.history stands)))
