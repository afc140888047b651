use Rattle.std.proofs.Common.{◌≡◌, take, map}
use Rattle.ps_definitions.specs.declared.matches.Match.{Match}
use Rattle.ps_rules.proofs.checks.matched_names.Given as goal

-- the names that were seen
abbrev pub invariant-matches : goal.invariant-matches
invariant-matches l = l.names ≡ map (λ (m : Match). m.name) (take l.one-index l.matches)
