use Rattle.ps_rules.proofs.FoundRules.{found_in}
use Rattle.ps_rules.proofs.OnlyRules.{only_in}
use Rattle.ps_rules.proofs.RisingWarnings.{warnings_rise_in}
use Rattle.ps_rules.proofs.reading.read_rules.Goals as goal

pub returns-clause-found : goal.returns-clause-found
returns-clause-found c = found_in c.args.bytes.now c.in_ok-node.node c.rules_in_document.result c.in_ok-node.ensures.found c.rules_in_document.ensures

pub returns-clause-only : goal.returns-clause-only
returns-clause-only c = only_in c.args.bytes.now c.in_ok-node.node c.rules_in_document.result c.in_ok-node.ensures.only c.rules_in_document.ensures

pub returns-clause-warnings_rise : goal.returns-clause-warnings_rise
returns-clause-warnings_rise c =
    warnings_rise_in c.places_rise.ensures c.args.bytes.now c.rules_in_document.result
    (found_in c.args.bytes.now c.in_ok-node.node c.rules_in_document.result c.in_ok-node.ensures.found c.rules_in_document.ensures)
