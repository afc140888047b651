use Rattle.std.proofs.Common.{[], sym, ◌∙◌}
use Rattle.ps_journal.proofs.Living.{opened_is, reopens_then, runs_then, kept_then, done}
use Rattle.ps_journal.proofs.runs.run_once.Goals as goal

pub returns-in-Err-clause-crash : goal.returns-in-Err-clause-crash
returns-in-Err-clause-crash g c = λ known records others is leaves.
    let again = rw is at c.in-Err.ensures.crash_refused in
    rw is (reopens_then known (g.D.Disk.told c.in-Err.disk) records others c.args.entry.now (g.met.D.Disk.possible c.args.disk known is) leaves again)

pub returns-in-Ok-clause-crash : goal.returns-in-Ok-clause-crash
returns-in-Ok-clause-crash g c = λ known records others is leaves.
    let possible = g.met.D.Disk.possible c.args.disk known is in
    let opened = c.in-Ok._records.items in
    let reads = rw is at c.in-Ok.ensures.reads in
    let found = opened_is known.content records others opened reads (leaves known.content possible) in
    let again = rw is at c.in-Ok.ensures.crash in
    rw (is, c.close.ensures) (runs_then known (g.D.Disk.told c.in-Ok.journal.0) (g.D.Disk.told c.append.new.self.0) records others opened found.0 c.args.entry.now possible leaves again found.1 found.2
    (c.append.ensures.crash opened [] c.in-Ok.ensures.keeps))

pub returns-in-Ok-clause-kept : goal.returns-in-Ok-clause-kept
returns-in-Ok-clause-kept g c = λ acknowledged known last records others is leaves here.
    let possible = g.met.D.Disk.possible c.args.disk known is in
    let opened = c.in-Ok._records.items in
    let reads = rw is at c.in-Ok.ensures.reads in
    let found = opened_is known.content records others opened reads (leaves known.content possible) in
    let ok = done c.append.result (sym c.is_ok-kept.ensures.value ∙ acknowledged) c.append.ensures.ok in
    let at_last = rw c.close.ensures at here in
    (found.0, found.1, kept_then (g.D.Disk.told c.append.new.self.0) c.append.new.self.1 last records found.0 opened c.args.entry.now at_last (ok opened [] c.in-Ok.ensures.keeps) found.2)
