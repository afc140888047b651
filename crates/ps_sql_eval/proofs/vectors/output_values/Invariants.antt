use Rattle.std.proofs.Common.{◌≡◌, map, take}
use Rattle.ps_sql_eval.specs.Evaluated.{without_bucket}
use Rattle.ps_queries.specs.Vectors.{output_value}
use Rattle.ps_sql_eval.proofs.vectors.output_values.Given as goal

-- the values so far
abbrev pub invariant-names : goal.invariant-names
invariant-names l = l.values ≡ map (output_value (without_bucket l.asker l.id l.row) l.outputs) (take l.name-index l.names)
