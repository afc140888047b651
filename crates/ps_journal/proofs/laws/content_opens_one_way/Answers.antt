use Rattle.ps_journal.proofs.Unique.{opens_one_way}
use Rattle.ps_journal.proofs.laws.content_opens_one_way.Goals as goal

pub returns : goal.returns
returns c = opens_one_way
