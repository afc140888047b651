use Rattle.std.proofs.Common.{◌≡◌, take}
use Rattle.sqlite.specs.State.{HasCleanDisk, KeepsCommit, Survives}
use Rattle.sqlite.specs.Held.{state}
use Rattle.ps_client_tables.specs.Steps.{IsInside, tables_of}
use Rattle.ps_client_sqlite.specs.Steps.{WritesAll}
use Rattle.ps_client_sqlite.proofs.writing.write_rows.Given as goal

abbrev pub invariant-writes : goal.invariant-writes
invariant-writes g l =
    let first = state g.S.Store l.fn.tx.conn.now in
    let now = state g.S.Store l.tx.conn.now in
    record {
      same_reference : l.tx.conn.ghost_name ≡ l.fn.tx.conn.ghost_name;
      survives : Survives first now (λ _. ⊥);
      kept : HasCleanDisk now → KeepsCommit first now;
      inside : HasCleanDisk now → IsInside first → IsInside now;
      written : HasCleanDisk now → IsInside first → WritesAll (take l.write-index l.writes) (tables_of first) (tables_of now);
    }
