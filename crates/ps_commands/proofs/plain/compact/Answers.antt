-- The rules and the change lines are read, or why they are not.
use Rattle.std.proofs.Common.{ℕ, Option, Ok, refl, arith}
use Rattle.std.proofs.lemmas.Result.{err_from_is_err_and}
use Rattle.ps_io.specs.Contents.{Contents}
use Rattle.ps_files.specs.Loading.{FindsRules, IsRulesFault}
use Rattle.ps_commands.specs.Commands.{Inputs, for_rules}
use Rattle.ps_commands.specs.Causes.{reading}
use Rattle.ps_commands.proofs.Causes.{cause_of, rules_refused, rules_read, reports_found}
use Rattle.ps_commands.proofs.Missed.{misses_later}
use Rattle.ps_commands.proofs.Nexts.{compact_left, at_compacted}
use Rattle.ps_commands.proofs.plain.compact.Goals as goal

pub returns-in_err-rules-clause-finds : goal.returns-in_err-rules-clause-finds
returns-in_err-rules-clause-finds g c =
    let p = err_from_is_err_and c.from_residual.result c.from_residual.ensures.1 in
    rw (p.1, p.2) (λ words is taken faults.
    let names : Inputs = record { rules = c.args.rules.now; changes = c.args.changes.now } in
    let held : Option Contents = g.F.Files.held c.args.files.now in
    let start : ℕ = g.F.Files.faults c.args.files.now in
    cause_of (reading held start (g.F.Files.faults c.load_rules.new.files) taken faults) held start words for_rules c.args.rules.now refl (omega arith) refl (at_compacted held words names is)
    FindsRules IsRulesFault (λ fault bytes refuses given. rules_refused (λ rules. compact_left given (Ok rules)) fault bytes refuses) c.in_err-rules.field-0.0 c.in_err-rules.ensures.loads)

pub returns-clause-finds : goal.returns-clause-finds
returns-clause-finds g c = λ words is.
    let names : Inputs = record { rules = c.args.rules.now; changes = c.args.changes.now } in
    let held : Option Contents = g.F.Files.held c.args.files.now in
    let start : ℕ = g.F.Files.faults c.args.files.now in
    let mid : ℕ = g.F.Files.faults c.load_rules.new.files in
    let rules = rules_read held c.args.rules.now start mid c.in_ok-rules.rules c.in_ok-rules.ensures.loads in
    reports_found held (g.F.Files.held c.load_rules.new.files) start mid (g.F.Files.faults c.load_reports.new.files) words c.in_ok-rules.ensures.held c.in_ok-rules.ensures.faults
    names is c.in_ok-rules.rules rules c.load_reports.result c.load_reports.ensures.loads

pub returns-in_err-rules-clause-missed : goal.returns-in_err-rules-clause-missed
returns-in_err-rules-clause-missed g c =
    let p = err_from_is_err_and c.from_residual.result c.from_residual.ensures.1 in
    rw (p.1, p.2) c.in_err-rules.ensures.missed

pub returns-clause-missed : goal.returns-clause-missed
returns-clause-missed g c =
    misses_later (g.F.Files.missed c.args.files.now) (g.F.Files.missed c.load_rules.new.files) (g.F.Files.missed c.load_reports.new.files) c.load_reports.result
    c.in_ok-rules.ensures.missed c.load_reports.ensures.missed
