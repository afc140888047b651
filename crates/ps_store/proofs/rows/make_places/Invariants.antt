use Rattle.std.proofs.Common.{◌≡◌, take}
use Rattle.ps_rows.specs.Source.{Key}
use Rattle.ps_store.specs.Rows.{row_at}
use Rattle.ps_store.specs.Tails.{HasPlaces}
use Rattle.ps_store.proofs.rows.make_places.Given as goal

abbrev pub invariant-changes : goal.invariant-changes
invariant-changes l = record {
  rows : (key : Key) → row_at l.rows key ≡ row_at l.initial.rows key;
  places : HasPlaces l.rows (take l.place l.changes.items);
}
