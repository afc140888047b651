use Rattle.ps_sql.proofs.Asking.{data_asks_nobody, parameter_names_no_bucket}
use Rattle.ps_sql.proofs.laws.queries_speak_as_they_may.Goals as goal

pub returns : goal.returns
returns c = record { «data» = data_asks_nobody; parameter = parameter_names_no_bucket }
