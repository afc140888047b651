use Rattle.std.proofs.Common.{◌≡◌, List, Some}
use Rattle.ps_doors.specs.Connections.{Connection}
use Rattle.outside_tests.specs.Echoes.{HaveEchoed}
use Rattle.outside_tests.proofs.echoes.echo_all.Given as goal

-- each connection that was handed out so far was closed, as an echo
abbrev pub invariant-connections : goal.invariant-connections
invariant-connections g l = record {
  place : g.D.Doors.place l.doors ≡ g.D.Doors.place l.fn.doors;
  echoed : (closed : List Connection) → g.D.Doors.closed l.fn.doors ≡ Some closed
      → HaveEchoed (g.D.Doors.opened l.fn.doors) (g.D.Doors.opened l.doors) closed (g.D.Doors.closed l.doors);
}
