use Rattle.std.proofs.Common.{◌≡◌, ℕ, List, ◌++◌, take}
use Rattle.ps_definitions.specs.Tables.{places_among, places_at}
use Rattle.ps_definitions.proofs.tables.add_queries.Given as goal

-- the places of the queries so far stand behind those that were there
abbrev pub invariant-loop-query : goal.invariant-loop-query
invariant-loop-query l = (table : List ℕ) → places_at l.found table ≡ places_at l.initial.found table ++ places_among table l.definition 0 (take l.query l.queries)
