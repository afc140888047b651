use Rattle.ps_queries.proofs.SubjectLaws.{whatever_the_bucket}
use Rattle.ps_queries.proofs.subjects.same_for_every_bucket.Goals as goal

pub returns : goal.returns
returns c = whatever_the_bucket
