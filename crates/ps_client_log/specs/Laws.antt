-- The laws of what a client keeps.
use Rattle.std.specs.Prelude.{List}
use Rattle.ps_client_log.specs.declared.edits.Edit.{Edit}
use Rattle.ps_client_log.specs.Kept.{Kept}
use Rattle.ps_client_log.specs.Soundness.{IsSound}
use Rattle.ps_client_log.specs.Edits.{CanMake, CanMakeAll, with_edit, with_edits}

-- an edit that can be made leaves what is sound
abbrev pub EditKeepsSound : Type 0
EditKeepsSound = (kept : Kept) (edit : Edit) → IsSound kept → CanMake kept edit → IsSound (with_edit kept edit)

-- and so do edits, one after another
abbrev pub EditsKeepSound : Type 0
EditsKeepSound = (kept : Kept) (edits : List Edit) → IsSound kept → CanMakeAll kept edits → IsSound (with_edits kept edits)
