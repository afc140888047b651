use Rattle.std.proofs.Common.{◌≡◌, take}
use Rattle.ps_client_sqlite.proofs.copies.all_held.Given as goal

abbrev pub invariant-held : goal.invariant-held
invariant-held l = l.copies ≡ take l.one-index l.held
