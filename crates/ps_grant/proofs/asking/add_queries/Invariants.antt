use Rattle.std.proofs.Common.{◌≡◌, List, Bool, flat_map, drop}
use Rattle.std.specs.Prelude.{◌||◌}
use Rattle.std.specs.List.{list_any}
use Rattle.ps_data.specs.declared.values.Value.{Value}
use Rattle.ps_definitions.specs.Vectors.{query_vectors}
use Rattle.ps_granted.specs.Sources.{rows_in}
use Rattle.ps_grant.specs.Mapped.{kept_rows}
use Rattle.ps_grant.proofs.asking.add_queries.Given as goal

-- the vectors so far, and those of the queries that are left
abbrev pub invariant-queries : goal.invariant-queries
invariant-queries l = (test : List Value → Bool)
    → (list_any test l.vectors || list_any test (flat_map (query_vectors l.names l.asker (rows_in (kept_rows l.rows))) (drop l.query-index l.queries)))
    ≡ (list_any test l.initial.vectors || list_any test (flat_map (query_vectors l.names l.asker (rows_in (kept_rows l.rows))) l.queries))
