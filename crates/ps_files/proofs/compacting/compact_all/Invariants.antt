use Rattle.std.proofs.Common.{List}
use Rattle.ps_store.specs.declared.events.Event.{Event}
use Rattle.ps_store.specs.declared.fixed.Fixed.{Fixed}
use Rattle.ps_store.specs.Stores.{StoreStandsFor}
use Rattle.ps_files.proofs.CompactedLogs.{IsCompacting}
use Rattle.ps_files.proofs.compacting.compact_all.Given as goal

-- the buckets before those that are left are compacted
abbrev pub invariant-names : goal.invariant-names
invariant-names l = (fixed : Fixed) (history : List Event) → StoreStandsFor fixed l.fn.store history → IsCompacting fixed history l.reports l.bucket-iterator.rest.items l.store
