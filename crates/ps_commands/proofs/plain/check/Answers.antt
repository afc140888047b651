-- The rules are read, or why they are not.
use Rattle.std.proofs.Common.{◌∙◌, arith, refl, sym, ap, List, ℕ, Ok, Result}
use Rattle.std.proofs.lemmas.Result.{err_from_is_err_and}
use Rattle.ps_definitions.specs.RuleSets.{RuleSet}
use Rattle.ps_files.specs.declared.faults.Fault.{Fault}
use Rattle.ps_files.specs.Loading.{FindsRules, IsRulesFault}
use Rattle.ps_commands.specs.Commands.{for_rules}
use Rattle.ps_commands.specs.Meanings.{or_refused, prints}
use Rattle.ps_commands.specs.Causes.{reading}
use Rattle.ps_commands.proofs.Causes.{cause_of, rules_refused}
use Rattle.ps_commands.proofs.Nexts.{means, check_left, at_checked}
use Rattle.ps_commands.proofs.plain.check.Goals as goal

pub returns-in_err-rules-clause-finds : goal.returns-in_err-rules-clause-finds
returns-in_err-rules-clause-finds g c =
    let p = err_from_is_err_and c.from_residual.result c.from_residual.ensures.1 in
    rw (p.1, p.2) (λ words is taken faults.
    let held = g.F.Files.held c.args.files.now in
    let start : ℕ = g.F.Files.faults c.args.files.now in
    cause_of (reading held start (g.F.Files.faults c.load_rules.new.files) taken faults) held start words for_rules c.args.rules.now refl (omega arith) refl (at_checked held words c.args.rules.now is)
    FindsRules IsRulesFault (λ fault bytes refuses given. rules_refused (λ rules. check_left (Ok rules)) fault bytes refuses) c.in_err-rules.field-0.0 c.in_err-rules.ensures.loads)

pub returns-clause-finds : goal.returns-clause-finds
returns-clause-finds g c = λ words is.
    let held = g.F.Files.held c.args.files.now in
    let read = c.in_ok-rules.ensures.loads in
    means held words for_rules c.args.rules.now (at_checked held words c.args.rules.now is) read.0 read.1 (Ok (prints c.in_ok-print_check.field-0.items)) (λ given.
    ap (λ (x : Result RuleSet Fault). check_left (or_refused x)) read.2 ∙ ap (λ (t : List ℕ). Ok (prints t)) (sym c.in_ok-print_check.ensures))

pub returns-in_err-rules-clause-missed : goal.returns-in_err-rules-clause-missed
returns-in_err-rules-clause-missed g c =
    let p = err_from_is_err_and c.from_residual.result c.from_residual.ensures.1 in
    rw (p.1, p.2) c.in_err-rules.ensures.missed
