use Rattle.std.proofs.Common.{◌≡◌, drop, map}
use Rattle.ps_queries.specs.Subjects.{any_true, speaks}
use Rattle.ps_queries.proofs.+speaking.Given as goal

-- those that were passed do not speak of it
abbrev pub invariant-subjects::any_speaks_of-all : goal.invariant-subjects::any_speaks_of-all
invariant-subjects::any_speaks_of-all l = any_true (map (speaks l.subject) l.all) ≡ any_true (map (speaks l.subject) (drop l.one-index l.all))
