use Rattle.ps_client_log.proofs.Sound.{with_edit-sound, with_edits-sound}
use Rattle.ps_client_log.proofs.laws.edits_leave_what_is_sound.Goals as goal

pub returns-clause-one : goal.returns-clause-one
returns-clause-one c = with_edit-sound

pub returns-clause-all : goal.returns-clause-all
returns-clause-all c kept edits = with_edits-sound edits kept
