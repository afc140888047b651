use Rattle.std.proofs.Common.{◌≡◌, ℕ, List, take}
use Rattle.std.specs.Prelude.{◌||◌}
use Rattle.std.specs.List.{list_any}
use Rattle.std.specs.Ordering.{nat_cmp}
use Rattle.std.specs.Cmp.Lexicographic.{slice_cmp}
use Rattle.std.specs.BTreeSet.{contains}
use Rattle.ps_queries.specs.declared.queries.ParameterQuery.{ParameterQuery}
use Rattle.ps_definitions.specs.Tables.{is_table}
use Rattle.ps_definitions.proofs.tables.add_read.Given as goal

-- the tables of the queries so far are among them
abbrev pub invariant-queries : goal.invariant-queries
invariant-queries l = (table : List ℕ) → contains (slice_cmp nat_cmp) l.read table
    ≡ (contains (slice_cmp nat_cmp) l.initial.read table || list_any (λ (q : ParameterQuery). is_table table q.table) (take l.query-index l.queries))
