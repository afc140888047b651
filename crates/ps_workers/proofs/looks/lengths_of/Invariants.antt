use Rattle.std.proofs.Common.{◌≡◌, ◌≤◌, ◌+◌, List, ◌++◌, map, take, length, vec_len, vec_capacity}
use Rattle.ps_store.specs.declared.events.Event.{Event}
use Rattle.ps_store.specs.declared.fixed.Fixed.{Fixed}
use Rattle.ps_store.specs.Ledgers.{ledger_of}
use Rattle.ps_store.specs.Readings.{log_length_of}
use Rattle.ps_store.specs.Stores.{StoreStandsFor}
use Rattle.ps_workers.proofs.looks.lengths_of.Given as goal

-- the lengths so far are there, and there is room for the rest
abbrev pub invariant-buckets : goal.invariant-buckets
invariant-buckets l = record {
  lengths : (fixed : Fixed) (history : List Event) → StoreStandsFor fixed l.store history
      → l.lengths.items ≡ l.fn.lengths.items ++ map (log_length_of (ledger_of fixed.rules history)) (take l.bucket-index l.buckets);
  room : vec_len l.fn.lengths + length l.buckets ≤ vec_capacity l.lengths;
  count : vec_len l.lengths ≡ vec_len l.fn.lengths + l.bucket-index;
}
