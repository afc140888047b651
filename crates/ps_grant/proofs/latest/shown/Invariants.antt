use Rattle.std.proofs.Common.{◌≡◌, ◌++◌, map}
use Rattle.ps_granted.specs.Latest.{shown_of}
use Rattle.ps_grant.proofs.latest.shown.Given as goal

-- the rows so far, and then those that are left
abbrev pub invariant-rows : goal.invariant-rows
invariant-rows l =
    (goal.iterator-rows).can_next l.kind-iterator ×
    (goal.iterator-rows).is_finite l.kind-iterator ×
    (l.all ++ map shown_of l.kind-iterator ≡ map shown_of l.fn.rows.entries)
