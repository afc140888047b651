use Rattle.std.proofs.Common.{◌<◌, ◌^◌, take}
use Rattle.std.specs.List.{All}
use Rattle.ps_lines.proofs.Tokens.{IsWrittenTo}
use Rattle.ps_lines.specs.Writing.{entry_json}
use Rattle.ps_lines.proofs.writers.write_entries.Given as goal

abbrev pub invariant-entries : goal.invariant-entries
invariant-entries l = record {
  written : IsWrittenTo entry_json l.entries l.entry-index l.initial.writer l.writer;
  sums : All (λ entry. entry.sum.0 < 2 ^ 32) (take l.entry-index l.entries);
  counts : All (λ entry. entry.count < 2 ^ 64) (take l.entry-index l.entries);
}
