use Rattle.ps_bucket_log.proofs.uncounted.read.Given as goal

abbrev pub ghosts-read_in : goal.ghosts-read_in
ghosts-read_in g a = record { name = a.blank.name; parts = a.blank.parts }
