-- The bytes that were looked at have no feed.
use Rattle.std.proofs.Common.{◌≡◌, ◌≤◌, ◌+◌, ◌-◌, ◌++◌, ℕ, List, length, take, is_some}
use Rattle.ps_answers.specs.Givings.{HasGiven}
use Rattle.ps_answers.specs.Lines.{HasNoFeed}
use Rattle.ps_answers.specs.Readers.{left_of}
use Rattle.ps_answers.proofs.buffers.Reader.next_line.Given as goal

abbrev pub invariant-parts : goal.invariant-parts
invariant-parts g l = record {
  given : (before : List ℕ) → HasGiven (g.S.Source.input l.initial.from) (before ++ left_of l.initial.self) → HasGiven (g.S.Source.input l.from) (before ++ left_of l.self);
  told : is_some (g.S.Source.input l.from) ≡ is_some (g.S.Source.input l.initial.from);
  faults : g.S.Source.faults l.from ≡ g.S.Source.faults l.initial.from;
  number : g.S.Source.number l.from ≡ g.S.Source.number l.initial.from;
  within : l.looked ≤ length (left_of l.self);
  clean : HasNoFeed (take l.looked (left_of l.self));
  ahead : length (left_of l.initial.self) ≤ 268435456 → length (left_of l.self) ≤ l.looked + 268435456;
}

-- how many bytes more a line may have
abbrev pub decreases-parts : goal.decreases-parts
decreases-parts g l = 268435457 - length (left_of l.self)
