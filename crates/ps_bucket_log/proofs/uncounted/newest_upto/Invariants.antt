use Rattle.ps_bucket_log.proofs.uncounted.newest_upto.Given as goal

abbrev pub ghosts-newest_in : goal.ghosts-newest_in
ghosts-newest_in g a = record { name = a.blank.name; parts = a.blank.parts }
