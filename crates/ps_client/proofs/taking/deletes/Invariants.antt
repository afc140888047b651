use Rattle.std.proofs.Common.{◌≡◌, ◌++◌, map}
use Rattle.ps_client_log.specs.declared.edits.Edit.TheVariants.{Delete}
use Rattle.ps_client.proofs.taking.deletes.Given as goal

-- those that are left come behind
abbrev pub invariant-names : goal.invariant-names
invariant-names l = l.edits.items ++ map Delete l.bucket-iterator.rest.items ≡ map Delete l.fn.names.items
