use Rattle.ps_store.proofs.LogsStanding.{logs_stand}
use Rattle.ps_store.proofs.laws.logs_stand_for_originals.Goals as goal

pub returns : goal.returns
returns c = logs_stand c.standing_logs_stay_standing.ensures.grown c.standing_logs_stay_standing.ensures.later c.standing_logs_stay_standing.ensures.untouched c.compacted_logs_stand.ensures
