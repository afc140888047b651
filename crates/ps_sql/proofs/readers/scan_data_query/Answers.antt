use Rattle.ps_sql.specs.Queries.{data_query}
use Rattle.ps_sql.proofs.QueryLaws.{answers_stopped}
use Rattle.ps_sql.proofs.readers.scan_data_query.Goals as goal

pub returns-in-Err : goal.returns-in-Err
returns-in-Err c = answers_stopped data_query c.args.text.now c.in-Err.fault c.in-Err.ensures
