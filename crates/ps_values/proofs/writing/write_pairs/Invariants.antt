use Rattle.std.proofs.Common.{◌≡◌, ◌++◌, false}
use Rattle.ps_values.specs.Writing.{members_tokens, paired, with_id}
use Rattle.ps_values.proofs.writing.write_pairs.Given as goal

-- what was written, and the members that are left, are all
abbrev pub invariant-pairs : goal.invariant-pairs
invariant-pairs l = record {
  written : l.writer.tokens ++ members_tokens (with_id l.told l.id (paired l.name-iterator))
      ≡ l.fn.writer.tokens ++ members_tokens (with_id false l.id (paired l.fn.pairs.entries));
  before : l.writer.before ≡ l.fn.writer.before;
}
