-- Rules, claims and the file that is fed are read, or why they are not.
use Rattle.std.proofs.Common.{◌≤◌, ◌∙◌, ℕ, Option, Vec, Ok, Err, refl, arith}
use Rattle.std.specs.declared.alloc.Global.{Global}
use Rattle.std.proofs.lemmas.Result.{err_from_is_err_and}
use Rattle.ps_io.specs.Contents.{Contents}
use Rattle.ps_files.specs.Loading.{FindsRules, IsRulesFault, FindsAsker, IsClaimsFault}
use Rattle.ps_commands.specs.Commands.{Names, for_rules, for_claims}
use Rattle.ps_commands.specs.Causes.{reading}
use Rattle.ps_commands.proofs.Causes.{cause_of, rules_refused, claims_refused, rules_read, asker_read, rows_found}
use Rattle.ps_commands.proofs.Missed.{misses_later}
use Rattle.ps_commands.proofs.Nexts.{rules_left, claims_left, at_rules, at_claims}
use Rattle.ps_commands.proofs.plain.rows.Goals as goal

pub returns-in_err-rules-clause-finds : goal.returns-in_err-rules-clause-finds
returns-in_err-rules-clause-finds g c =
    let p = err_from_is_err_and c.from_residual.result c.from_residual.ensures.1 in
    rw (p.1, p.2) (λ words is taken faults.
    let names : Names = record { feeding = c.args.feeding; rules = c.args.rules.now; changes = c.args.changes.now; claims = c.args.claims.now } in
    let held : Option Contents = g.F.Files.held c.args.files.now in
    let start : ℕ = g.F.Files.faults c.args.files.now in
    cause_of (reading held start (g.F.Files.faults c.load_rules.new.files) taken faults) held start words for_rules c.args.rules.now refl (omega arith) refl (at_rules held words names is)
    FindsRules IsRulesFault (λ fault bytes refuses given. rules_refused (λ rules. rules_left names given (Ok rules)) fault bytes refuses) c.in_err-rules.field-0.0 c.in_err-rules.ensures.loads)

pub returns-in_err-asker-clause-finds : goal.returns-in_err-asker-clause-finds
returns-in_err-asker-clause-finds g c =
    let p = err_from_is_err_and c.from_residual-in_err-asker.result c.from_residual-in_err-asker.ensures.1 in
    rw (p.1, p.2) (λ words is taken faults.
    let names : Names = record { feeding = c.args.feeding; rules = c.args.rules.now; changes = c.args.changes.now; claims = c.args.claims.now } in
    let held : Option Contents = g.F.Files.held c.args.files.now in
    let start : ℕ = g.F.Files.faults c.args.files.now in
    let mid : ℕ = g.F.Files.faults c.load_rules.new.files in
    let rules = rules_read held c.args.rules.now start mid c.in_ok-rules.rules c.in_ok-rules.ensures.loads in
    cause_of (reading held start (g.F.Files.faults c.load_asker.new.files) taken faults) (g.F.Files.held c.load_rules.new.files) mid words for_claims c.args.claims.now
    c.in_ok-rules.ensures.held c.in_ok-rules.ensures.faults refl (at_claims held words names is c.in_ok-rules.rules rules) FindsAsker IsClaimsFault
    (λ fault bytes refuses given. claims_refused (λ asker. claims_left names c.in_ok-rules.rules given (Ok asker)) fault bytes refuses) c.in_err-asker.field-0.0 c.in_err-asker.ensures.loads)

pub returns-clause-finds : goal.returns-clause-finds
returns-clause-finds g c = λ words is.
    let names : Names = record { feeding = c.args.feeding; rules = c.args.rules.now; changes = c.args.changes.now; claims = c.args.claims.now } in
    let held : Option Contents = g.F.Files.held c.args.files.now in
    let start : ℕ = g.F.Files.faults c.args.files.now in
    let held_1 : Option Contents = g.F.Files.held c.load_rules.new.files in
    let read_1 : ℕ = g.F.Files.faults c.load_rules.new.files in
    let read_2 : ℕ = g.F.Files.faults c.load_asker.new.files in
    let rules = rules_read held c.args.rules.now start read_1 c.in_ok-rules.rules c.in_ok-rules.ensures.loads in
    let claims = asker_read held held_1 c.args.claims.now read_1 read_2 c.in_ok-asker.asker c.in_ok-rules.ensures.held c.in_ok-asker.ensures.loads in
    let first : start ≤ read_1 = c.in_ok-rules.ensures.faults in
    let second : read_1 ≤ read_2 = c.in_ok-asker.ensures.faults in
    rows_found held (g.F.Files.held c.load_asker.new.files) start read_2 (g.F.Files.faults c.load_rows.new.files) words (c.in_ok-asker.ensures.held ∙ c.in_ok-rules.ensures.held) (omega (arith, first, second))
    names is c.in_ok-rules.rules rules c.in_ok-asker.asker claims c.load_rows.result c.load_rows.ensures.loads

pub returns-in_err-rules-clause-missed : goal.returns-in_err-rules-clause-missed
returns-in_err-rules-clause-missed g c =
    let p = err_from_is_err_and c.from_residual.result c.from_residual.ensures.1 in
    rw (p.1, p.2) c.in_err-rules.ensures.missed

pub returns-in_err-asker-clause-missed : goal.returns-in_err-asker-clause-missed
returns-in_err-asker-clause-missed g c =
    let p = err_from_is_err_and c.from_residual-in_err-asker.result c.from_residual-in_err-asker.ensures.1 in
    rw (p.1, p.2) (misses_later {X = Vec ℕ Global} (g.F.Files.missed c.args.files.now) (g.F.Files.missed c.load_rules.new.files) (g.F.Files.missed c.load_asker.new.files) (Err c.in_err-asker.field-0.0)
    c.in_ok-rules.ensures.missed c.in_err-asker.ensures.missed)

pub returns-clause-missed : goal.returns-clause-missed
returns-clause-missed g c =
    misses_later (g.F.Files.missed c.args.files.now) (g.F.Files.missed c.load_asker.new.files) (g.F.Files.missed c.load_rows.new.files) c.load_rows.result
    (c.in_ok-asker.ensures.missed ∙ c.in_ok-rules.ensures.missed) c.load_rows.ensures.missed
