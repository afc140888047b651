use Rattle.part_cases.proofs.Left.{bytes_left}
use Rattle.part_cases.proofs.scripts.answer.Given as goal

abbrev pub decreases-lines : goal.decreases-lines
decreases-lines l = bytes_left l.rest
