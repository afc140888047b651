use Rattle.ps_bucket_log.proofs.uncounted.sum_upto.Given as goal

abbrev pub ghosts-sum_in : goal.ghosts-sum_in
ghosts-sum_in g a = record { name = a.blank.name; parts = a.blank.parts }
