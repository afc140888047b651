use Rattle.std.proofs.Common.{◌≡◌, ℕ, List, take}
use Rattle.std.specs.Ordering.{nat_cmp}
use Rattle.std.specs.Cmp.Lexicographic.{slice_cmp}
use Rattle.std.specs.BTreeSet.{contains}
use Rattle.ps_definitions.specs.Tables.{places_from, places_at, is_read}
use Rattle.ps_definitions.proofs.tables.Tables.of.Given as goal

-- the tables of the definitions so far
abbrev pub invariant-loop-number : goal.invariant-loop-number
invariant-loop-number l = record {
  found : (table : List ℕ) → places_at l.queries table ≡ places_from table 0 (take l.number l.definitions);
  read : (table : List ℕ) → contains (slice_cmp nat_cmp) l.read table ≡ is_read (take l.number l.definitions) table;
}
