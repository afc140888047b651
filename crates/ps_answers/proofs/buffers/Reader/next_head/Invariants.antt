-- What was read is what the source has handed out.
use Rattle.std.proofs.Common.{◌≡◌, ◌≤◌, ◌-◌, ◌++◌, ℕ, List, length, is_some}
use Rattle.ps_answers.specs.Givings.{HasGiven}
use Rattle.ps_answers.specs.Readers.{left_of}
use Rattle.ps_answers.proofs.buffers.Reader.next_head.Given as goal

abbrev pub invariant-parts : goal.invariant-parts
invariant-parts g l = record {
  given : (before : List ℕ) → HasGiven (g.S.Source.input l.initial.from) (before ++ left_of l.initial.self) → HasGiven (g.S.Source.input l.from) (before ++ left_of l.self);
  told : is_some (g.S.Source.input l.from) ≡ is_some (g.S.Source.input l.initial.from);
  faults : g.S.Source.faults l.from ≡ g.S.Source.faults l.initial.from;
  number : g.S.Source.number l.from ≡ g.S.Source.number l.initial.from;
  ahead : length (left_of l.initial.self) ≤ 268435456 → length (left_of l.self) ≤ 268435456;
}

-- how many bytes more a head may have
abbrev pub decreases-parts : goal.decreases-parts
decreases-parts g l = 16384 - length (left_of l.self)
