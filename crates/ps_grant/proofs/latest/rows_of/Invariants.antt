use Rattle.std.proofs.Common.{◌≡◌, [], drop}
use Rattle.ps_granted.specs.Latest.{latest_after}
use Rattle.ps_grant.proofs.latest.rows_of.Given as goal

-- the copies that are left, after what is kept
abbrev pub invariant-copies : goal.invariant-copies
invariant-copies l = latest_after l.rows.entries (drop l.copy-index l.copies) ≡ latest_after [] l.copies
