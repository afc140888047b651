use Rattle.std.proofs.Common.{◌≡◌, ◌%◌, ◌^◌, take}
use Rattle.ps_client_log.specs.Kept.{held_sum}
use Rattle.ps_client_log.proofs.saving.sum_of_held.Given as goal

abbrev pub invariant-entries : goal.invariant-entries
invariant-entries l = l.sum.0 ≡ held_sum (take l.entry-index l.entries) % 2 ^ 32
