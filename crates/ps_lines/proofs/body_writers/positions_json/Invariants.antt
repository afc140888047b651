use Rattle.std.proofs.Common.{◌≡◌, map, take}
use Rattle.serde_json.specs.View.{view}
use Rattle.ps_lines.specs.BodyTexts.{known_json}
use Rattle.ps_lines.proofs.body_writers.positions_json.Given as goal

abbrev pub invariant-positions : goal.invariant-positions
invariant-positions l = map view l.list.items ≡ map known_json (take l.known-index l.positions)
