use Rattle.ps_bucket_log.proofs.Histories.{stands_for_itself, stands_later, standing_is_log}
use Rattle.ps_bucket_log.proofs.Entries.{no_clear, grows_later, within_level}
use Rattle.ps_bucket_log.proofs.laws.standing_logs_stay_standing.Goals as goal

pub returns-clause-grown : goal.returns-clause-grown
returns-clause-grown c = grows_later

pub returns-clause-untouched : goal.returns-clause-untouched
returns-clause-untouched c original written = stands_for_itself original written.rising (no_clear original written.entries)

pub returns-clause-later : goal.returns-clause-later
returns-clause-later c log original more level written = stands_later log original more level written.rising (no_clear more written.entries)

pub returns-clause-log : goal.returns-clause-log
returns-clause-log c log original level written = standing_is_log log original level written.rising

pub returns-clause-level : goal.returns-clause-level
returns-clause-level c = within_level
