use Rattle.std.proofs.Common.{◌-◌, ◌≡◌, ◌≤◌, length, take}
use Rattle.ps_io.specs.Sources.{Gives}
use Rattle.ps_http.proofs.bodies.fill.Given as goal

-- the front of the buffer has what the source has handed out
abbrev pub invariant-parts : goal.invariant-parts
invariant-parts g l = record {
  within : l.filled ≤ l.length;
  long : length l.into ≡ l.length;
  given : Gives (g.S.Source.input l.initial.from) (g.S.Source.input l.from) (take l.filled l.into);
  faults : g.S.Source.faults l.initial.from ≤ g.S.Source.faults l.from;
  number : g.S.Source.number l.from ≡ g.S.Source.number l.initial.from;
}

-- what is left to fill
abbrev pub decreases-parts : goal.decreases-parts
decreases-parts g l = l.length - l.filled
