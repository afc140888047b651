-- A query that is read, and its fault with a place.
use Rattle.std.proofs.Common.{◌≡◌, ℕ, ap, Result, Ok, Err}
use Rattle.ps_sql.specs.declared.faults.SqlFault.{SqlFault}
use Rattle.ps_sql.specs.declared.faults.SqlFault.TheVariants as sql_faults
use Rattle.ps_sql.specs.Answers as sql_answers
use Rattle.ps_rules.specs.Faults.{Reads, sql, placed_fault}

-- a query that is read, whatever stands round it
pub placed_ok : {X : Type 0} (line column : ℕ) (x : X) (meant : Result X SqlFault) → meant ≡ Ok x → sql line column meant ≡ Ok x
placed_ok line column x meant e = ap (sql line column) e

-- a fault is answered with its place
pub placed_err : {X : Type 0} (line column : ℕ) (fault : SqlFault) (meant : Result X SqlFault) → sql_answers.Reads (Err fault) meant → Reads {X = X} (Err (placed_fault line column fault)) (sql line column meant)
placed_err line column sql_faults.Memory meant h = tt
placed_err line column (sql_faults.BadToken at) meant h = ap (sql line column) h
placed_err line column (sql_faults.Unexpected at) meant h = ap (sql line column) h
placed_err line column (sql_faults.Unsupported at) meant h = ap (sql line column) h

pub ruleset placed = (placed_ok, placed_err)
