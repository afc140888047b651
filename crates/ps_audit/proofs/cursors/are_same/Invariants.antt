use Rattle.std.proofs.Common.{◌≡◌, ℕ, ◌<◌, get_or}
use Rattle.ps_rows.specs.declared.shown.Shown.{Shown}
use Rattle.ps_audit.proofs.cursors.are_same.Given as goal

-- those so far are equal
abbrev pub invariant-places : goal.invariant-places
invariant-places l = (k : ℕ) (row : Shown) → k < l.place → get_or l.rows k row ≡ get_or l.others k row
