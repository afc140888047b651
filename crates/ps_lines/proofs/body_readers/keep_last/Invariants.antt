use Rattle.std.proofs.Common.{◌≡◌, ℕ, List, ◌++◌, reverse, nat_cmp, vec_len}
use Rattle.std.specs.BTreeSet.{contains}
use Rattle.std.specs.Cmp.Lexicographic.{slice_cmp}
use Rattle.ps_lines.specs.Types.{Known}
use Rattle.ps_lines.specs.Bodies.{names, last_ones}
use Rattle.ps_lines.proofs.body_readers.keep_last.Given as goal

-- of the entries behind those that are left: their last ones, backwards, and their names
abbrev pub invariant-entries : goal.invariant-entries
invariant-entries l = (later : List Known) × (l.fn.entries ≡ l.entries.items ++ later) × (reverse l.kept.items ≡ last_ones later)
    × ((q : List ℕ) → contains (slice_cmp nat_cmp) l.named q ≡ names q later)

abbrev pub decreases-entries : goal.decreases-entries
decreases-entries l = vec_len l.entries
