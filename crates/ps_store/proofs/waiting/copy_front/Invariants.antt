use Rattle.std.proofs.Common.{◌≡◌, take}
use Rattle.ps_store.proofs.waiting.copy_front.Given as goal

abbrev pub invariant-changes : goal.invariant-changes
invariant-changes l = l.copies.items ≡ take l.place l.queue.items
