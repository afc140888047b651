use Rattle.std.proofs.Common.{◌≡◌, drop}
use Rattle.ps_data.specs.Documents.{with_columns, members_of}
use Rattle.ps_values.specs.Writing.{paired}
use Rattle.ps_values.proofs.writing.sorted.Given as goal

abbrev pub invariant-columns : goal.invariant-columns
invariant-columns l = with_columns (paired l.pairs.entries) (drop l.column-index l.columns) ≡ members_of l.columns
