use Rattle.std.proofs.Common.{take}
use Rattle.ps_client_sqlite.specs.Reading.{Alike, AreCells}
use Rattle.ps_client_sqlite.proofs.reading.rows_in.Given as goal

abbrev pub invariant-rows : goal.invariant-rows
invariant-rows l = Alike AreCells (take l.row-index l.rows) l.all
