use Rattle.ps_store.proofs.LongestRuns.{longest}
use Rattle.ps_store.proofs.laws.runs_are_the_longest.Goals as goal

pub returns : goal.returns
returns c = λ limits l ts. longest limits l ts
