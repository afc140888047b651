use Rattle.std.proofs.Common.{◌≡◌, ℕ, List, take}
use Rattle.std.specs.Ordering.{nat_cmp}
use Rattle.std.specs.Cmp.Lexicographic.{slice_cmp}
use Rattle.std.specs.BTreeSet.{contains}
use Rattle.ps_snapshot.specs.FirstCopies.{is_listed}
use Rattle.ps_snapshot.proofs.progress.list_tables.Given as goal

-- those so far are listed
abbrev pub invariant-tables : goal.invariant-tables
invariant-tables l = (table : List ℕ) → contains (slice_cmp nat_cmp) l.listed table ≡ is_listed (take l.table-index l.tables) table
