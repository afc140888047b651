use Rattle.std.proofs.Common.{◌≡◌, take}
use Rattle.std.specs.Prelude.{if◌then◌else◌}
use Rattle.ps_rows.specs.Source.{Key}
use Rattle.ps_snapshot.specs.FirstCopies.{is_changed}
use Rattle.ps_snapshot.specs.Progress.{changed_in}
use Rattle.ps_snapshot.proofs.progress.note_changes.Given as goal

-- so far each row that is changed has the position
abbrev pub invariant-changes : goal.invariant-changes
invariant-changes l = (key : Key) → changed_in l.changed key ≡ (if is_changed key (take l.change-index l.change-items) then l.fn.transaction.position.0 else changed_in l.fn.changed key)
