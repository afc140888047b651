use Rattle.std.proofs.Common.{◌≡◌, drop}
use Rattle.ps_store.specs.Places.{is_taken}
use Rattle.ps_store.proofs.places.is_among.Given as goal

-- none so far has the place
abbrev pub invariant-entries : goal.invariant-entries
invariant-entries l = is_taken l.entries l.place ≡ is_taken (drop l.entry-index l.entries) l.place
