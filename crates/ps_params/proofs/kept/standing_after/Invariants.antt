use Rattle.std.proofs.Common.{◌≡◌, map, drop}
use Rattle.std.specs.Option.{option_copied}
use Rattle.ps_params.specs.Notes.{row_after}
use Rattle.ps_params.specs.Kept.{note_of}
use Rattle.ps_params.proofs.kept.standing_after.Given as goal

-- the row so far, and after the notes that are left
abbrev pub invariant-notes : goal.invariant-notes
invariant-notes l = row_after l.table l.id l.upto.0 (option_copied l.before) (map note_of l.notes) ≡ row_after l.table l.id l.upto.0 (option_copied l.standing) (map note_of (drop l.note-index l.notes))
