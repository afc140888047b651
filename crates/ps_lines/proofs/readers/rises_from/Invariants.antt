use Rattle.std.proofs.Common.{◌≡◌, drop}
use Rattle.ps_lines.specs.Reading.{rises_from}
use Rattle.ps_lines.proofs.readers.rises_from.Given as goal

-- all rise where those that are left rise from the last one
abbrev pub invariant-ops : goal.invariant-ops
invariant-ops l = rises_from l.fn.after.0 l.ops ≡ rises_from l.last.0 (drop l.op-index l.ops)
