use Rattle.std.proofs.Common.{◌≡◌, ◌+◌, drop}
use Rattle.std.specs.List.{prefix_len}
use Rattle.ps_sql.specs.Words.{is_digit}
use Rattle.ps_sql.proofs.scans.digits_length.Given as goal

-- what was counted, and what is left to count
abbrev pub invariant-digits : goal.invariant-digits
invariant-digits l = (l.count ≡ l.b-index) × (l.count + prefix_len is_digit (drop l.b-index l.bytes) ≡ prefix_len is_digit l.bytes)
