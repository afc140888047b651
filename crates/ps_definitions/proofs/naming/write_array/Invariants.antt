use Rattle.std.proofs.Common.{◌≡◌, ◌++◌, drop}
use Rattle.ps_values.specs.Writing.{value_tokens}
use Rattle.ps_definitions.specs.Buckets.{array_json}
use Rattle.ps_definitions.proofs.Names.{left_tokens}
use Rattle.ps_definitions.proofs.naming.write_array.Given as goal

-- what was written, and the values that are left, are all
abbrev pub invariant-values : goal.invariant-values
invariant-values l = record {
  written : l.writer.tokens ++ left_tokens (drop l.value-index l.values) ≡ l.fn.writer.tokens ++ value_tokens (array_json l.values);
  before : l.writer.before ≡ l.fn.writer.before;
}
