use Rattle.std.proofs.Common.{◌≡◌, ◌++◌, drop, false}
use Rattle.ps_values.specs.Writing.{members_tokens, listed, with_id}
use Rattle.ps_values.proofs.writing.write_columns.Given as goal

-- what was written, and the members that are left, are all
abbrev pub invariant-columns : goal.invariant-columns
invariant-columns l = record {
  written : l.writer.tokens ++ members_tokens (with_id l.told l.id (listed (drop l.column-index l.columns)))
      ≡ l.fn.writer.tokens ++ members_tokens (with_id false l.id (listed l.columns));
  before : l.writer.before ≡ l.fn.writer.before;
}
