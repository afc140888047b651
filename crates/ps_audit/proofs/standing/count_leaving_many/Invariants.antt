use Rattle.std.proofs.Common.{◌≡◌, ◌≤◌, length, take}
use Rattle.ps_store.specs.Originals.{leaving}
use Rattle.ps_audit.proofs.standing.count_leaving_many.Given as goal

-- those of the entries so far, which are no more than these
abbrev pub invariant-entries : goal.invariant-entries
invariant-entries l = (l.count ≡ length (leaving (take l.entry-index l.before) l.after)) × (l.count ≤ l.entry-index)
