use Rattle.std.proofs.Common.{◌≡◌, ◌++◌, map, take, drop}
use Rattle.ps_store.proofs.LastsKept.{kept_made}
use Rattle.ps_store.proofs.lasts.keep_writes.Given as goal

abbrev pub invariant-made : goal.invariant-made
invariant-made l = l.made.items ≡ map (kept_made l.last l.wrote) (take l.place l.initial.made.items) ++ drop l.place l.initial.made.items
