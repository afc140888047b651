use Rattle.std.proofs.Common.{take}
use Rattle.ps_client_sqlite.specs.Reading.{AreCells}
use Rattle.ps_client_sqlite.proofs.reading.cells_in.Given as goal

abbrev pub invariant-columns : goal.invariant-columns
invariant-columns l = AreCells (take l.at l.row) l.cells
