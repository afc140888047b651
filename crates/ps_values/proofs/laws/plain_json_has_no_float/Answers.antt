use Rattle.ps_values.proofs.Plainness.{floatless_where_plain}
use Rattle.ps_values.proofs.laws.plain_json_has_no_float.Goals as goal

pub returns : goal.returns
returns c = floatless_where_plain
