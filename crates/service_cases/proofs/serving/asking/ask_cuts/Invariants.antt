use Rattle.service_cases.specs.Standing.{IsStore}
use Rattle.service_cases.proofs.serving.asking.ask_cuts.Given as goal

-- the store stays one
abbrev pub invariant-cuts : goal.invariant-cuts
invariant-cuts l = IsStore l.store
