use Rattle.std.proofs.Common.{◌≡◌, arith}
use Rattle.ps_client_log.specs.Edits.{CanMakeAll}
use Rattle.part_cases.proofs.Together.{together}
use Rattle.part_cases.proofs.base.clients.edits.Goals as goal

pub returns : goal.returns
returns c kept sound = rw c.in_ok-vec.ensures.items (together c.edits_leave_what_is_sound.ensures.one 7 _ _ kept (omega arith) c.in_ok-rows.ensures sound)
