use Rattle.std.proofs.Common.{◌≡◌, Some, drop}
use Rattle.ps_snapshot.specs.FirstCopies.{ids_rise}
use Rattle.ps_snapshot.proofs.progress.ids_rise.Given as goal

-- all rise where those that are left rise from the last one
abbrev pub invariant-rows : goal.invariant-rows
invariant-rows l = ids_rise l.fn.after l.fn.upto l.fn.rows ≡ ids_rise (Some l.last) l.upto (drop l.row-index l.rest)
