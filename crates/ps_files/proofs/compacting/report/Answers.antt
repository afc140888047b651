use Rattle.std.proofs.lemmas.Result.{err_from_is_err_and}
use Rattle.ps_files.specs.ReadingChanges.{usual}
use Rattle.ps_files.proofs.CompactedLogs.{reports_stop, reports_found}
use Rattle.ps_files.proofs.compacting.report.Goals as goal

pub returns-in_err-store : goal.returns-in_err-store
returns-in_err-store c =
    let p = err_from_is_err_and c.from_residual.result c.from_residual.ensures.1 in
    rw (p.1, p.2) (reports_stop c.args.rules c.args.changes.now c.in_err-store.field-0.0 c.in_err-store.ensures)

pub print_compacted-requires : goal.print_compacted-requires
print_compacted-requires c = let w = c.in_ok-store.ensures in (usual c.args.rules, w.2.history, w.2.stands)

pub returns : goal.returns
returns c =
    let w = c.in_ok-store.ensures in
    reports_found c.args.rules c.args.changes.now c.in_ok-store.store c.in_ok-print_compacted.field-0 w (c.in_ok-print_compacted.ensures (usual c.args.rules) w.2.history w.2.stands)
