use Rattle.std.proofs.Common.{◌≡◌, ◌++◌, map}
use Rattle.ps_client_lines.specs.Images.{held_of}
use Rattle.ps_client_lines.proofs.images.Image.from_state.Given as goal

-- with the entries that are left these are all
abbrev pub invariant-entries : goal.invariant-entries
invariant-entries l = map held_of l.held.entries ++ l.one-iterator.rest.items ≡ l.fn.entries
