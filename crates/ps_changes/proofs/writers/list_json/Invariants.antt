use Rattle.std.proofs.Common.{◌≡◌, map, take}
use Rattle.std.specs.List.{All}
use Rattle.serde_json.specs.View.{view}
use Rattle.ps_changes.specs.Grammar.{IsChange}
use Rattle.ps_changes.specs.Writing.{change_json}
use Rattle.ps_changes.proofs.writers.list_json.Given as goal

abbrev pub invariant-changes : goal.invariant-changes
invariant-changes l = record {
  made : map view l.list.items ≡ map change_json (take l.change-index l.changes);
  spelled : All (λ change. IsChange (change_json change) change) (take l.change-index l.changes);
}
