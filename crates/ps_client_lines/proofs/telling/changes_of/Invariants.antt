use Rattle.std.proofs.Common.{◌≡◌, map, take}
use Rattle.ps_client_lines.proofs.telling.changes_of.Given as goal

abbrev pub invariant-queue : goal.invariant-queue
invariant-queue l = l.changes ≡ map (λ line. line.change) (take l.line-index l.queue)
