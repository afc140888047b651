use Rattle.std.proofs.Common.{◌≡◌, drop, codes}
use Rattle.std.specs.Prelude.{if◌then◌else◌}
use Rattle.ps_data.specs.declared.values.Value.TheVariants.{Null, Text}
use Rattle.ps_queries.specs.Objects.{value_named, id_value}
use Rattle.ps_sql_eval.specs.Evaluated.{without_bucket}
use Rattle.ps_sql_eval.proofs.objects.id_value.Given as goal

-- none before is named so
abbrev pub invariant-outputs : goal.invariant-outputs
invariant-outputs l = id_value (without_bucket l.asker l.id l.row) l.query ≡ value_named (without_bucket l.asker l.id l.row) (codes "id") (drop l.output-index l.query.outputs) (if l.query.star then Text l.id else Null)
