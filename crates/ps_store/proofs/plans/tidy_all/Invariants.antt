use Rattle.std.proofs.Common.{◌≡◌}
use Rattle.ps_rows.specs.Source.{Key}
use Rattle.ps_store.specs.Rows.{row_at}
use Rattle.ps_store.proofs.plans.tidy_all.Given as goal

-- the rows stay
abbrev pub invariant-places : goal.invariant-places
invariant-places l = (key : Key) → row_at l.rows key ≡ row_at l.initial.rows key
