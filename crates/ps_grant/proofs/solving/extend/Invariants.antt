use Rattle.std.proofs.Common.{◌≡◌, ◌++◌, drop}
use Rattle.ps_grant.specs.Solving.{extended}
use Rattle.ps_grant.proofs.solving.extend.Given as goal

-- those so far, and then those that are left
abbrev pub invariant-fronts : goal.invariant-fronts
invariant-fronts l = l.longer ++ extended (drop l.front-index l.fronts) l.values ≡ extended l.fronts l.values
