use Rattle.std.proofs.Common.{◌≡◌, Ok, arith}
use Rattle.std.proofs.lemmas.Grind.{common_steps}
use Rattle.ps_definitions.specs.RuleSets.{RuleSet}
use Rattle.ps_rules.specs.Reading.{rules_from, no_rules}
use Rattle.ps_rules.proofs.Kept.{kept}
use Rattle.ps_rules.proofs.reading.check_all.Goals as goal

pub made-requires : goal.made-requires
made-requires c =
    let rules : RuleSet = record { definitions = c.drafts.definitions; warnings = c.drafts.warnings } in
    let read : rules_from 0 no_rules c.args.drafts ≡ Ok rules = grind (arith, common_steps) in
    kept c.queries_speak_as_they_may.ensures.data c.queries_speak_as_they_may.ensures.parameter c.args.drafts rules read c.requires
