use Rattle.std.proofs.Common.{drop, Some}
use Rattle.ps_client.specs.LocalWrites.{RowFitsInt64}
use Rattle.ps_client.proofs.local_writes.read_ranges.Given as goal

-- where those that are left have 64 bits, all have
abbrev pub invariant-columns : goal.invariant-columns
invariant-columns l = RowFitsInt64 (Some (drop l.column-index l.row)) → RowFitsInt64 (Some l.row)
