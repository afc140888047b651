use Rattle.std.proofs.Common.{◌≡◌, ℕ, ◌||◌, List}
use Rattle.std.specs.BTreeSet.{contains}
use Rattle.std.specs.Cmp.Lexicographic.{slice_cmp}
use Rattle.std.specs.Ordering.{nat_cmp}
use Rattle.ps_client_log.specs.Seeing.{is_there}
use Rattle.ps_client_log.proofs.rows.names_of.Given as goal

-- a bucket that is there is listed or is left
abbrev pub invariant-slots : goal.invariant-slots
invariant-slots l = (name : List ℕ) → (contains (slice_cmp nat_cmp) l.names name || is_there name l.name-iterator) ≡ is_there name l.buckets.slots.entries
