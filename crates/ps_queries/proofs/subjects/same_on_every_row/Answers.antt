use Rattle.ps_queries.proofs.SubjectLaws.{whatever_the_row}
use Rattle.ps_queries.proofs.subjects.same_on_every_row.Goals as goal

pub returns : goal.returns
returns c = whatever_the_row
