use Rattle.std.proofs.Common.{◌≡◌, []}
use Rattle.ps_rules.specs.Shapes.{drafts_from, draft_names}
use Rattle.ps_rules.proofs.shapes.drafts.Given as goal

-- what was read stands before what is left to read
abbrev pub invariant-pairs : goal.invariant-pairs
invariant-pairs l = record { read : drafts_from [] l.fn.pairs ≡ drafts_from l.drafts l.pair-iterator.rest.items; named : l.names ≡ draft_names l.drafts }
