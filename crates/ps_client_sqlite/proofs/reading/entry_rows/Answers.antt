use Rattle.std.proofs.Common.{List, subst}
use Rattle.sqlite.specs.Order.{Row}
use Rattle.ps_client_sqlite.specs.Reading.{Alike, AreCells}
use Rattle.sqlite.specs.Held.{state}
use Rattle.ps_client_sqlite.proofs.Turning.{kept_unchanged, kept_left}
use Rattle.ps_client_sqlite.proofs.Cells.{cells_in_order}
use Rattle.ps_client_sqlite.proofs.reading.entry_rows.Goals as goal

pub returns-in_ok-all-in-Ok-clause-read : goal.returns-in_ok-all-in-Ok-clause-read
returns-in_ok-all-in-Ok-clause-read g c clean client =
    record { read = c.in-Ok.rows.items; same = c.in-Ok.ensures.read clean client; cells = subst (λ (rows : List Row). Alike AreCells rows c.in_ok-all-in-Ok.all) c.as_slice.ensures.value c.in_ok-all-in-Ok.ensures }

pub returns-in_ok-all-in-Ok-clause-kept : goal.returns-in_ok-all-in-Ok-clause-kept
returns-in_ok-all-in-Ok-clause-kept g c stored kept = kept_unchanged stored (state g.S.Store c.args.conn.now) (state g.S.Store c.read_entries.new.conn) c.in-Ok.ensures.clean c.in-Ok.ensures.opened c.in-Ok.ensures.same kept

pub returns-in_err-all-in-Ok-clause-kept : goal.returns-in_err-all-in-Ok-clause-kept
returns-in_err-all-in-Ok-clause-kept g c stored kept = kept_unchanged stored (state g.S.Store c.args.conn.now) (state g.S.Store c.read_entries.new.conn) c.in-Ok.ensures.clean c.in-Ok.ensures.opened c.in-Ok.ensures.same kept

pub returns-in-Err-clause-kept : goal.returns-in-Err-clause-kept
returns-in-Err-clause-kept g c stored kept = kept_left stored (state g.S.Store c.args.conn.now) (state g.S.Store c.read_entries.new.conn) c.in-Err.ensures.clean c.in-Err.ensures.refused kept

pub returns-in_ok-all-in-Ok-clause-stand : goal.returns-in_ok-all-in-Ok-clause-stand
returns-in_ok-all-in-Ok-clause-stand g c clean client =
    cells_in_order c.in-Ok.rows.items c.in_ok-all-in-Ok.all (subst (λ (rows : List Row). Alike AreCells rows c.in_ok-all-in-Ok.all) c.as_slice.ensures.value c.in_ok-all-in-Ok.ensures) (c.in-Ok.ensures.sorted clean client)
