use Rattle.ps_bucket_log.proofs.uncounted.count_upto.Given as goal

abbrev pub ghosts-count_in : goal.ghosts-count_in
ghosts-count_in g a = record { name = a.blank.name; parts = a.blank.parts }
