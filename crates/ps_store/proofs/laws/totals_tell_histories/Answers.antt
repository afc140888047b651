use Rattle.ps_store.proofs.Totalling.{totals_tell, names_tell, compaction_keeps, generations_keep}
use Rattle.ps_store.proofs.OneGeneration.{written_tell}
use Rattle.ps_store.proofs.laws.totals_tell_histories.Goals as goal

pub returns : goal.returns
returns c = record { totals = totals_tell; written = written_tell; names = names_tell; compaction = compaction_keeps; generations = generations_keep }
