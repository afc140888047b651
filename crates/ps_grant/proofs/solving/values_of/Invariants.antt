use Rattle.std.proofs.Common.{◌≡◌, drop}
use Rattle.ps_grant.specs.Solving.{values_for}
use Rattle.ps_grant.proofs.solving.values_of.Given as goal

-- none so far has the name
abbrev pub invariant-all : goal.invariant-all
invariant-all l = values_for l.name l.all ≡ values_for l.name (drop l.one-index l.all)
