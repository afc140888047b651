use Rattle.std.proofs.Common.{◌≡◌, ◌≤◌, length, false, All, true}
use Rattle.httparse.specs.Grammar.{HasNoRequest}
use Rattle.ps_io.specs.Sources.{Gives}
use Rattle.ps_http.specs.Takings.{is_newline}
use Rattle.ps_http.proofs.takings.read_head.Given as goal

-- what was taken is what the source has handed out, and no head stands in it
abbrev pub invariant-bytes : goal.invariant-bytes
invariant-bytes g l = record {
  given : Gives (g.S.Source.input l.initial.from) (g.S.Source.input l.from) l.taken.items;
  none : HasNoRequest l.taken.items;
  blank : l.started ≡ false → All (λ byte. is_newline byte ≡ true) l.taken.items;
  long : length l.taken.items ≡ l.counter;
  faults : g.S.Source.faults l.initial.from ≤ g.S.Source.faults l.from;
  number : g.S.Source.number l.from ≡ g.S.Source.number l.initial.from;
}
