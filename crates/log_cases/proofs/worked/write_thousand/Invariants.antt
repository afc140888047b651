use Rattle.log_cases.proofs.worked.write_thousand.Given as goal

abbrev pub ghosts-write_answers : goal.ghosts-write_answers
ghosts-write_answers a = record { name = a.blank.name; parts = a.blank.parts }
