use Rattle.std.proofs.Common.{◌≡◌, drop}
use Rattle.std.specs.List.{IsDistinct}
use Rattle.ps_client_log.specs.Edits.{CanMakeAll, with_edits}
use Rattle.ps_client_log.specs.Soundness.{same_row}
use Rattle.ps_client_lines.specs.Images.{draft_kept}
use Rattle.ps_client_lines.proofs.drafts.Draft.make_all.Given as goal

-- the edits that are left lead to where all of them do, and can be made
abbrev pub invariant-edits : goal.invariant-edits
invariant-edits l = record {
  kept : with_edits (draft_kept l.self) (drop l.edit-index l.edits) ≡ with_edits (draft_kept l.initial.self) l.edits;
  can : CanMakeAll (draft_kept l.self) (drop l.edit-index l.edits);
  shown : IsDistinct same_row l.self.shown;
}
