use Rattle.ps_sql.specs.Queries.{parameter_query}
use Rattle.ps_sql.proofs.QueryLaws.{answers_stopped}
use Rattle.ps_sql.proofs.readers.scan_parameter_query.Goals as goal

pub returns-in-Err : goal.returns-in-Err
returns-in-Err c = answers_stopped parameter_query c.args.text.now c.in-Err.fault c.in-Err.ensures
