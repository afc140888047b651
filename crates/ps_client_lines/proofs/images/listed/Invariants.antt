use Rattle.std.proofs.Common.{◌≡◌, ◌++◌, map}
use Rattle.ps_client_lines.specs.Images.{held_of}
use Rattle.ps_client_lines.proofs.images.listed.Given as goal

-- those that are left come behind
abbrev pub invariant-entries : goal.invariant-entries
invariant-entries l = l.entries ++ map held_of l.key-iterator ≡ map held_of l.fn.held.entries
