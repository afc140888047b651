-- The files are read, and the stream is judged; or why one is not read.
use Rattle.std.proofs.Common.{◌≤◌, ◌∙◌, ℕ, Option, Ok, Err, refl, arith}
use Rattle.std.proofs.lemmas.Result.{err_from_is_err_and}
use Rattle.ps_io.specs.Contents.{Contents}
use Rattle.ps_audit.specs.declared.verdicts.Verdict.{Verdict}
use Rattle.ps_files.specs.Loading.{FindsRules, IsRulesFault, FindsAsker, IsClaimsFault}
use Rattle.ps_commands.specs.Causes.{reading}
use Rattle.ps_commands.specs.Commands.{Recording, for_rules, for_claims}
use Rattle.ps_commands.proofs.Verdicts.{cause_of_rising, cause_of_stream, judged, judged_unread, rising_read}
use Rattle.ps_commands.proofs.Causes.{cause_of, rules_refused, claims_refused, rules_read, asker_read}
use Rattle.ps_commands.proofs.Nexts.{audit_left, auditor_left, at_audited, at_auditor}
use Rattle.ps_commands.proofs.Replays.{script_read}
use Rattle.ps_commands.proofs.Missed.{misses_later}
use Rattle.ps_commands.proofs.auditing.audit_files.Goals as goal

pub returns-in_err-rules-clause-finds : goal.returns-in_err-rules-clause-finds
returns-in_err-rules-clause-finds g c =
    let p = err_from_is_err_and c.from_residual.result c.from_residual.ensures.1 in
    rw (p.1, p.2) (λ words is taken faults.
    let names : Recording = record { rules = c.args.rules.now; changes = c.args.changes.now; claims = c.args.claims.now; stream = c.args.stream.now } in
    let held : Option Contents = g.F.Files.held c.args.files.now in
    let start : ℕ = g.F.Files.faults c.args.files.now in
    cause_of (reading held start (g.F.Files.faults c.load_rules.new.files) taken faults) held start words for_rules c.args.rules.now refl (omega arith) refl (at_audited held words names is)
    FindsRules IsRulesFault (λ fault bytes refuses given. rules_refused (λ rules. audit_left given (Ok rules)) fault bytes refuses) c.in_err-rules.field-0.0 c.in_err-rules.ensures.loads)

pub returns-in_err-asker-clause-finds : goal.returns-in_err-asker-clause-finds
returns-in_err-asker-clause-finds g c =
    let p = err_from_is_err_and c.from_residual-in_err-asker.result c.from_residual-in_err-asker.ensures.1 in
    rw (p.1, p.2) (λ words is taken faults.
    let names : Recording = record { rules = c.args.rules.now; changes = c.args.changes.now; claims = c.args.claims.now; stream = c.args.stream.now } in
    let held : Option Contents = g.F.Files.held c.args.files.now in
    let start : ℕ = g.F.Files.faults c.args.files.now in
    let mid : ℕ = g.F.Files.faults c.load_rules.new.files in
    let rules = rules_read held c.args.rules.now start mid c.in_ok-rules.rules c.in_ok-rules.ensures.loads in
    cause_of (reading held start (g.F.Files.faults c.load_asker.new.files) taken faults) (g.F.Files.held c.load_rules.new.files) mid words for_claims c.args.claims.now
    c.in_ok-rules.ensures.held c.in_ok-rules.ensures.faults refl (at_auditor held words names is c.in_ok-rules.rules rules) FindsAsker IsClaimsFault
    (λ fault bytes refuses given. claims_refused (λ asker. auditor_left c.in_ok-rules.rules given (Ok asker)) fault bytes refuses) c.in_err-asker.field-0.0 c.in_err-asker.ensures.loads)

pub returns-in_err-transactions-clause-finds : goal.returns-in_err-transactions-clause-finds
returns-in_err-transactions-clause-finds g c =
    let p = err_from_is_err_and c.from_residual-in_err-transactions.result c.from_residual-in_err-transactions.ensures.1 in
    rw (p.1, p.2) (λ words is taken faults.
    let names : Recording = record { rules = c.args.rules.now; changes = c.args.changes.now; claims = c.args.claims.now; stream = c.args.stream.now } in
    let held : Option Contents = g.F.Files.held c.args.files.now in
    let start : ℕ = g.F.Files.faults c.args.files.now in
    let held_1 : Option Contents = g.F.Files.held c.load_rules.new.files in
    let read_1 : ℕ = g.F.Files.faults c.load_rules.new.files in
    let held_2 : Option Contents = g.F.Files.held c.load_asker.new.files in
    let read_2 : ℕ = g.F.Files.faults c.load_asker.new.files in
    let rules = rules_read held c.args.rules.now start read_1 c.in_ok-rules.rules c.in_ok-rules.ensures.loads in
    let claims = asker_read held held_1 c.args.claims.now read_1 read_2 c.in_ok-asker.asker c.in_ok-rules.ensures.held c.in_ok-asker.ensures.loads in
    let first : start ≤ read_1 = c.in_ok-rules.ensures.faults in
    let second : read_1 ≤ read_2 = c.in_ok-asker.ensures.faults in
    cause_of_rising held words names is c.in_ok-rules.rules rules c.in_ok-asker.asker claims start read_2 (g.F.Files.faults c.load_rising.new.files) taken faults held_2 c.in_err-transactions.field-0.0
    (c.in_ok-asker.ensures.held ∙ c.in_ok-rules.ensures.held) (omega (arith, first, second)) c.in_err-transactions.ensures.loads)

pub returns-in_err-stream-clause-finds : goal.returns-in_err-stream-clause-finds
returns-in_err-stream-clause-finds g c =
    let p = err_from_is_err_and c.from_residual-in_err-stream.result c.from_residual-in_err-stream.ensures.1 in
    rw (p.1, p.2) (λ words is taken faults.
    let names : Recording = record { rules = c.args.rules.now; changes = c.args.changes.now; claims = c.args.claims.now; stream = c.args.stream.now } in
    let held : Option Contents = g.F.Files.held c.args.files.now in
    let start : ℕ = g.F.Files.faults c.args.files.now in
    let held_1 : Option Contents = g.F.Files.held c.load_rules.new.files in
    let read_1 : ℕ = g.F.Files.faults c.load_rules.new.files in
    let held_2 : Option Contents = g.F.Files.held c.load_asker.new.files in
    let read_2 : ℕ = g.F.Files.faults c.load_asker.new.files in
    let held_3 : Option Contents = g.F.Files.held c.load_rising.new.files in
    let read_3 : ℕ = g.F.Files.faults c.load_rising.new.files in
    let rules = rules_read held c.args.rules.now start read_1 c.in_ok-rules.rules c.in_ok-rules.ensures.loads in
    let claims = asker_read held held_1 c.args.claims.now read_1 read_2 c.in_ok-asker.asker c.in_ok-rules.ensures.held c.in_ok-asker.ensures.loads in
    let changes = rising_read held held_2 c.args.changes.now read_2 read_3 c.in_ok-transactions.transactions (c.in_ok-asker.ensures.held ∙ c.in_ok-rules.ensures.held) c.in_ok-transactions.ensures.loads in
    let first : start ≤ read_1 = c.in_ok-rules.ensures.faults in
    let second : read_1 ≤ read_2 = c.in_ok-asker.ensures.faults in
    let third : read_2 ≤ read_3 = c.in_ok-transactions.ensures.faults in
    cause_of_stream held words names is c.in_ok-rules.rules rules c.in_ok-asker.asker claims c.in_ok-transactions.transactions.items changes start read_3 (g.F.Files.faults c.load.new.files) taken faults held_3 c.in_err-stream.field-0.0
    (c.in_ok-transactions.ensures.held ∙ c.in_ok-asker.ensures.held ∙ c.in_ok-rules.ensures.held) (omega (arith, first, second, third)) c.in_err-stream.ensures.loads)

pub judge-requires : goal.judge-requires
judge-requires g c = rw c.as_slice.ensures.value c.in_ok-transactions.ensures.loads.2.rises

pub returns-clause-finds : goal.returns-clause-finds
returns-clause-finds g c = λ words is.
    let names : Recording = record { rules = c.args.rules.now; changes = c.args.changes.now; claims = c.args.claims.now; stream = c.args.stream.now } in
    let held : Option Contents = g.F.Files.held c.args.files.now in
    let start : ℕ = g.F.Files.faults c.args.files.now in
    let held_1 : Option Contents = g.F.Files.held c.load_rules.new.files in
    let read_1 : ℕ = g.F.Files.faults c.load_rules.new.files in
    let held_2 : Option Contents = g.F.Files.held c.load_asker.new.files in
    let read_2 : ℕ = g.F.Files.faults c.load_asker.new.files in
    let held_3 : Option Contents = g.F.Files.held c.load_rising.new.files in
    let read_3 : ℕ = g.F.Files.faults c.load_rising.new.files in
    let rules = rules_read held c.args.rules.now start read_1 c.in_ok-rules.rules c.in_ok-rules.ensures.loads in
    let claims = asker_read held held_1 c.args.claims.now read_1 read_2 c.in_ok-asker.asker c.in_ok-rules.ensures.held c.in_ok-asker.ensures.loads in
    let changes = rising_read held held_2 c.args.changes.now read_2 read_3 c.in_ok-transactions.transactions (c.in_ok-asker.ensures.held ∙ c.in_ok-rules.ensures.held) c.in_ok-transactions.ensures.loads in
    let stream = script_read held held_3 c.args.stream.now read_3 (g.F.Files.faults c.load.new.files) c.in_ok-stream.stream (c.in_ok-transactions.ensures.held ∙ c.in_ok-asker.ensures.held ∙ c.in_ok-rules.ensures.held) c.in_ok-stream.ensures.loads in
    judged held words names is c.in_ok-rules.rules rules c.in_ok-asker.asker claims c.in_ok-transactions.transactions.items changes c.in_ok-stream.stream.items stream start (g.F.Files.faults c.load.new.files) c.judge.result (rw (c.as_slice.ensures.value, c.as_slice-2.ensures.value) at c.judge.ensures)

pub returns-in_err-rules-clause-missed : goal.returns-in_err-rules-clause-missed
returns-in_err-rules-clause-missed g c =
    let p = err_from_is_err_and c.from_residual.result c.from_residual.ensures.1 in
    rw (p.1, p.2) c.in_err-rules.ensures.missed

pub returns-in_err-asker-clause-missed : goal.returns-in_err-asker-clause-missed
returns-in_err-asker-clause-missed g c =
    let p = err_from_is_err_and c.from_residual-in_err-asker.result c.from_residual-in_err-asker.ensures.1 in
    rw (p.1, p.2) (misses_later {X = Verdict} (g.F.Files.missed c.args.files.now) (g.F.Files.missed c.load_rules.new.files) (g.F.Files.missed c.load_asker.new.files) (Err c.in_err-asker.field-0.0)
    c.in_ok-rules.ensures.missed c.in_err-asker.ensures.missed)

pub returns-in_err-transactions-clause-missed : goal.returns-in_err-transactions-clause-missed
returns-in_err-transactions-clause-missed g c =
    let p = err_from_is_err_and c.from_residual-in_err-transactions.result c.from_residual-in_err-transactions.ensures.1 in
    rw (p.1, p.2) (misses_later {X = Verdict} (g.F.Files.missed c.args.files.now) (g.F.Files.missed c.load_asker.new.files) (g.F.Files.missed c.load_rising.new.files) (Err c.in_err-transactions.field-0.0)
    (c.in_ok-asker.ensures.missed ∙ c.in_ok-rules.ensures.missed) c.in_err-transactions.ensures.missed)

pub returns-in_err-stream-clause-missed : goal.returns-in_err-stream-clause-missed
returns-in_err-stream-clause-missed g c =
    let p = err_from_is_err_and c.from_residual-in_err-stream.result c.from_residual-in_err-stream.ensures.1 in
    rw (p.1, p.2) (misses_later {X = Verdict} (g.F.Files.missed c.args.files.now) (g.F.Files.missed c.load_rising.new.files) (g.F.Files.missed c.load.new.files) (Err c.in_err-stream.field-0.0)
    (c.in_ok-transactions.ensures.missed ∙ c.in_ok-asker.ensures.missed ∙ c.in_ok-rules.ensures.missed) c.in_err-stream.ensures.missed)

pub returns-clause-missed : goal.returns-clause-missed
returns-clause-missed g c =
    judged_unread c.in_ok-rules.rules c.in_ok-transactions.transactions.items c.in_ok-asker.asker c.in_ok-stream.stream.items (g.F.Files.missed c.args.files.now) (g.F.Files.missed c.load.new.files) c.judge.result
    (c.in_ok-stream.ensures.missed ∙ c.in_ok-transactions.ensures.missed ∙ c.in_ok-asker.ensures.missed ∙ c.in_ok-rules.ensures.missed) (rw (c.as_slice.ensures.value, c.as_slice-2.ensures.value) at c.judge.ensures)
