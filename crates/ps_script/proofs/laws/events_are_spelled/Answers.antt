use Rattle.ps_script.proofs.Found.{event_found}
use Rattle.ps_script.proofs.Spelled.{event_only}
use Rattle.ps_script.proofs.laws.events_are_spelled.Goals as goal

pub returns : goal.returns
returns c = λ line event. (λ read. event_found c.decimals_read_back.ensures c.lone_changes_are_spelled.ensures line event read, λ spelled. event_only c.decimals_read_back.ensures c.lone_changes_are_spelled.ensures spelled)
