use Rattle.std.proofs.Common.{◌∙◌, arith}
use Rattle.std.proofs.lemmas.Result.{err_from_is_err_and}
use Rattle.ps_serve_inputs.proofs.Low.{read_low}
use Rattle.ps_serve_inputs.proofs.Stages.{stops_at_next, stops_at_keys, stops_at_changes}
use Rattle.ps_serve_inputs.proofs.inputs.load_inputs.Goals as goal

pub returns-in_err-next-clause-loads : goal.returns-in_err-next-clause-loads
returns-in_err-next-clause-loads g c =
    let p = err_from_is_err_and c.from_residual-in_err-next.result c.from_residual-in_err-next.ensures.1 in
    rw (p.1, p.2) (stops_at_next (g.F.Files.held c.args.files.now) c.args.words.now (g.F.Files.faults c.args.files.now) c.in_ok-rules.rules c.in_ok-rules.ensures.loads c.in_err-next.field-0.0
    (g.F.Files.held c.load_rules.new.files) (g.F.Files.faults c.load_rules.new.files) (g.F.Files.faults c.load_next_if.new.files) c.in_ok-rules.ensures.held c.in_ok-rules.ensures.faults
    c.in_err-next.ensures.loads)

pub returns-in_err-keys-clause-loads : goal.returns-in_err-keys-clause-loads
returns-in_err-keys-clause-loads g c =
    let p = err_from_is_err_and c.from_residual-in_err-keys.result c.from_residual-in_err-keys.ensures.1 in
    rw (p.1, p.2) (stops_at_keys (g.F.Files.held c.args.files.now) c.args.words.now (g.F.Files.faults c.args.files.now) c.in_ok-rules.rules c.in_ok-rules.ensures.loads c.in_err-keys.field-0.0
    c.in_ok-next.next (g.F.Files.held c.load_rules.new.files) c.in_ok-rules.ensures.held c.in_ok-next.ensures.loads
    (g.F.Files.held c.load_next_if.new.files) (g.F.Files.faults c.load_next_if.new.files) (g.F.Files.faults c.load_keys.new.files) (c.in_ok-next.ensures.held ∙ c.in_ok-rules.ensures.held)
    (omega (arith, c.in_ok-rules.ensures.faults, c.in_ok-next.ensures.faults)) c.in_err-keys.ensures.loads)

pub returns-in_err-transactions-clause-loads : goal.returns-in_err-transactions-clause-loads
returns-in_err-transactions-clause-loads g c =
    let p = err_from_is_err_and c.from_residual-in_err-transactions.result c.from_residual-in_err-transactions.ensures.1 in
    rw (p.1, p.2) (stops_at_changes (g.F.Files.held c.args.files.now) c.args.words.now (g.F.Files.faults c.args.files.now) c.in_ok-rules.rules c.in_ok-rules.ensures.loads
    c.in_err-transactions.field-0.0 c.in_ok-next.next (g.F.Files.held c.load_rules.new.files) c.in_ok-rules.ensures.held c.in_ok-next.ensures.loads
    (g.F.Files.held c.load_next_if.new.files) (g.F.Files.held c.load_keys.new.files) (g.F.Files.faults c.load_keys.new.files) (g.F.Files.faults c.load_rising.new.files) c.in_ok-keys.keys
    (c.in_ok-next.ensures.held ∙ c.in_ok-rules.ensures.held) c.in_ok-keys.ensures.loads (c.in_ok-keys.ensures.held ∙ (c.in_ok-next.ensures.held ∙ c.in_ok-rules.ensures.held))
    (omega (arith, c.in_ok-rules.ensures.faults, c.in_ok-next.ensures.faults, c.in_ok-keys.ensures.faults)) c.in_err-transactions.ensures.loads)

pub returns-clause-low : goal.returns-clause-low
returns-clause-low g c = let found = c.in_ok-transactions.ensures.loads in read_low c.lines_are_spelled.ensures found.0 c.in_ok-transactions.transactions.items found.2.read
