use Rattle.ps_queries.proofs.SubjectLaws.{whoever_asks}
use Rattle.ps_queries.proofs.subjects.same_for_every_asker.Goals as goal

pub returns : goal.returns
returns c = whoever_asks
