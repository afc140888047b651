use Rattle.std.proofs.Common.{List, subst}
use Rattle.ps_token.specs.declared.key_lists.Key.{Key}
use Rattle.ps_token.specs.KeyLists.{HaveDistinctKids}
use Rattle.ps_token.proofs.KeyLaws.{distinct_kids}
use Rattle.ps_token.proofs.key_lists.Keys.as_slice.Goals as goal

pub returns-clause-distinct : goal.returns-clause-distinct
returns-clause-distinct c = subst (λ (keys : List Key). HaveDistinctKids keys) c.self.view_is (distinct_kids c.self.inside.keys c.self.invariant.distinct)
