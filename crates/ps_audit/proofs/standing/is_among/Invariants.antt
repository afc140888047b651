use Rattle.std.proofs.Common.{◌≡◌, drop}
use Rattle.ps_store.specs.Originals.{stays}
use Rattle.ps_audit.proofs.standing.is_among.Given as goal

-- none so far has the bucket and the key
abbrev pub invariant-entries : goal.invariant-entries
invariant-entries l = stays l.entries l.entry ≡ stays (drop l.other-index l.entries) l.entry
