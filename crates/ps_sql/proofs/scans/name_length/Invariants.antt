use Rattle.std.proofs.Common.{◌≡◌, ◌+◌, drop}
use Rattle.std.specs.List.{prefix_len}
use Rattle.ps_sql.specs.Words.{continues_name}
use Rattle.ps_sql.proofs.scans.name_length.Given as goal

-- what was counted, and what is left to count
abbrev pub invariant-names : goal.invariant-names
invariant-names l = (l.count ≡ l.b-index) × (l.count + prefix_len continues_name (drop l.b-index l.bytes) ≡ prefix_len continues_name l.bytes)
