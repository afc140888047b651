use Rattle.ps_store.proofs.BuiltIndex.{gives_built}
use Rattle.ps_store.proofs.Taking.{gives_buckets}
use Rattle.ps_store.proofs.laws.indexes_give_buckets.Goals as goal

pub returns-clause-force : goal.returns-clause-force
returns-clause-force c = λ fixed store history p h late whole. gives_buckets fixed store history h c.notes_of_changes_are_the_source.ensures.read p late whole

pub returns-clause-built : goal.returns-clause-built
returns-clause-built c = λ fixed store history built coming p h is coming_is late. gives_built fixed store history built coming p h is coming_is late
