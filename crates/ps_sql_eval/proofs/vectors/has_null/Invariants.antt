use Rattle.std.proofs.Common.{◌≡◌, drop}
use Rattle.std.specs.List.{list_any}
use Rattle.ps_data.specs.Values.{is_null}
use Rattle.ps_sql_eval.proofs.vectors.has_null.Given as goal

-- none so far is Null
abbrev pub invariant-values : goal.invariant-values
invariant-values l = list_any is_null l.values ≡ list_any is_null (drop l.value-index l.values)
