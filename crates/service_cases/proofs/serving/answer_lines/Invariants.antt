use Rattle.service_cases.specs.Standing.{IsStore}
use Rattle.service_cases.proofs.serving.answer_lines.Given as goal

-- the store stays one
abbrev pub invariant-lines : goal.invariant-lines
invariant-lines l = IsStore l.store
