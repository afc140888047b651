use Rattle.std.proofs.Common.{rules}
use Rattle.std.proofs.lemmas.List.Sorted.{answers_always}
use Rattle.ps_store.specs.Rows.{moment_of}
use Rattle.ps_store.proofs.rows.sort_by_moment.Goals as goal

pub returns-clause-sorted : goal.returns-clause-sorted
returns-clause-sorted c = c.sort_unstable_by_key.ensures.sorted moment_of (answers_always _ _ _ (λ f a r g called. search rules))
