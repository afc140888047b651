use Rattle.std.proofs.Common.{◌≡◌, drop}
use Rattle.ps_sql_eval.specs.Evaluated.{without_bucket}
use Rattle.ps_queries.specs.Vectors.{output_value}
use Rattle.ps_sql_eval.proofs.vectors.output_value.Given as goal

-- none so far has the name
abbrev pub invariant-outputs : goal.invariant-outputs
invariant-outputs l = output_value (without_bucket l.asker l.id l.row) l.outputs l.name ≡ output_value (without_bucket l.asker l.id l.row) (drop l.output-index l.outputs) l.name
