use Rattle.ps_changes.specs.Lines.{lone_change_of}
use Rattle.ps_syncing.proofs.ReadingLines.{ReadsAs-refused}
use Rattle.ps_syncing.proofs.inputs.read_numbered.Goals as goal

pub returns-in-Ok-clause-table : goal.returns-in-Ok-clause-table
returns-in-Ok-clause-table c = c.in-Ok.ensures.found.is.filled

pub returns-in-Err-clause-read : goal.returns-in-Err-clause-read
returns-in-Err-clause-read c = ReadsAs-refused c.args.number c.in-Err.fault (lone_change_of c.args.line.now) c.in-Err.ensures.exact
