use Rattle.std.proofs.Common.{◌≡◌, ◌++◌, map, take}
use Rattle.ps_queries.specs.Objects.{output_column}
use Rattle.ps_sql_eval.specs.Evaluated.{without_bucket}
use Rattle.ps_sql_eval.proofs.objects.with_outputs.Given as goal

-- the outputs so far
abbrev pub invariant-outputs : goal.invariant-outputs
invariant-outputs l = l.columns ≡ l.fn.columns ++ map (output_column (without_bucket l.asker l.id l.row)) (take l.output-index l.outputs)
