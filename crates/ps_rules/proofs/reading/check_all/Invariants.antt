use Rattle.std.proofs.Common.{◌≡◌}
use Rattle.ps_rules.specs.Reading.{rules_from, no_rules}
use Rattle.ps_rules.proofs.reading.check_all.Given as goal

-- what was read stands before what is left to read
abbrev pub invariant-drafts : goal.invariant-drafts
invariant-drafts l = rules_from 0 no_rules l.fn.drafts ≡ rules_from l.before (record { definitions = l.definitions; warnings = l.warnings }) l.draft-iterator.rest.items
