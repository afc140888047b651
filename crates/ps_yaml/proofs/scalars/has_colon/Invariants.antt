use Rattle.std.proofs.Common.{◌≡◌, length}
use Rattle.ps_yaml.specs.Scalars as words
use Rattle.ps_yaml.proofs.scalars.has_colon.Given as goal

abbrev pub invariant-bytes : goal.invariant-bytes
invariant-bytes l = words.has_colon l.text ≡ words.has_colon l.rest

abbrev pub decreases-bytes : goal.decreases-bytes
decreases-bytes l = length l.rest
