use Rattle.std.proofs.Common.{◌≡◌, drop}
use Rattle.ps_client.specs.Tables.{without}
use Rattle.ps_client.proofs.telling.Told.forget.Given as goal

-- without those that are left, all are forgotten
abbrev pub invariant-names : goal.invariant-names
invariant-names l = without (drop l.name-index l.names) l.self ≡ without l.names l.initial.self
