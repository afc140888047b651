use Rattle.std.proofs.Common.{◌≡◌, List, Bool, bytes_eq, filter, flat_map}
use Rattle.std.specs.Prelude.{◌||◌}
use Rattle.std.specs.List.{list_any}
use Rattle.ps_data.specs.declared.values.Value.{Value}
use Rattle.ps_queries.specs.Vectors.{SourceRow, vector_on}
use Rattle.ps_granted.specs.Sources.{rows_in}
use Rattle.ps_grant.specs.Mapped.{kept_rows}
use Rattle.ps_grant.proofs.KeptLaws.{held}
use Rattle.ps_grant.proofs.asking.add_from.Given as goal

-- the vectors so far, and those on the rows that are left
abbrev pub invariant-rows : goal.invariant-rows
invariant-rows l = (test : List Value → Bool)
    → (list_any test l.vectors || list_any test (flat_map (vector_on l.names l.asker l.query) (filter (λ (r : SourceRow). bytes_eq r.table l.table) (rows_in (held l.key-iterator)))))
    ≡ (list_any test l.initial.vectors || list_any test (flat_map (vector_on l.names l.asker l.query) (filter (λ (r : SourceRow). bytes_eq r.table l.table) (rows_in (kept_rows l.rows)))))
