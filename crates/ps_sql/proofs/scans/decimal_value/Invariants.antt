use Rattle.std.proofs.Common.{◌≡◌, ◌≤◌, drop}
use Rattle.ps_data.specs.Numbers.{greatest}
use Rattle.ps_sql.specs.Words.{decimal_after}
use Rattle.ps_sql.proofs.scans.decimal_value.Given as goal

-- the value so far, and the digits that are left, give the number
abbrev pub invariant-value : goal.invariant-value
invariant-value l = (l.value ≤ greatest) × (decimal_after 0 l.digits ≡ decimal_after l.value (drop l.b-index l.digits))
