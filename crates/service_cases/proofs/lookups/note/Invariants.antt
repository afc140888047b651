use Rattle.std.proofs.Common.{◌≡◌, ◌≤◌}
use Rattle.service_cases.proofs.lookups.note.Given as goal

abbrev pub invariant-changes : goal.invariant-changes
invariant-changes l = record {
  rules : l.index.rules ≡ l.fn.index.rules;
  forgotten : l.index.forgotten ≡ l.fn.index.forgotten;
  last : l.index.last ≤ l.at.0;
}
