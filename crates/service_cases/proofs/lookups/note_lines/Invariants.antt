use Rattle.std.proofs.Common.{◌≡◌, ◌≤◌}
use Rattle.service_cases.proofs.lookups.note_lines.Given as goal

abbrev pub invariant-lines : goal.invariant-lines
invariant-lines l = record {
  rules : l.index.rules ≡ l.fn.index.rules;
  forgotten : l.index.forgotten ≡ l.fn.index.forgotten;
  last : l.index.last ≤ l.last;
}
