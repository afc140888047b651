use Rattle.std.proofs.Common.{◌≡◌, ◌++◌}
use Rattle.std.specs.Prelude.{map}
use Rattle.ps_client_log.specs.Saving.{held_of}
use Rattle.ps_client_log.proofs.saving.listed.Given as goal

-- those that are left come behind
abbrev pub invariant-entries : goal.invariant-entries
invariant-entries l = l.entries ++ map held_of l.key-iterator ≡ map held_of l.held.entries
