use Rattle.std.proofs.Common.{◌≡◌, drop}
use Rattle.ps_rows.specs.Source.{after_changes}
use Rattle.ps_grant.specs.Mapped.{kept_rows}
use Rattle.ps_grant.proofs.sourcing.take_changes.Given as goal

-- the changes that are left, from the place on, make what all of them make
abbrev pub invariant-changes : goal.invariant-changes
invariant-changes l = record {
  place : l.index ≡ l.change-index;
  after : after_changes l.transaction.position.0 l.index (drop l.change-index l.change-items) (kept_rows l.live) ≡ after_changes l.transaction.position.0 0 l.change-items (kept_rows l.initial.live);
}
