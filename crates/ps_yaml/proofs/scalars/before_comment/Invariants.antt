use Rattle.std.proofs.Common.{◌≡◌, ◌≤◌, ◌++◌, length, take, drop}
use Rattle.ps_yaml.specs.Scalars as words
use Rattle.ps_yaml.proofs.scalars.before_comment.Given as goal

abbrev pub invariant-bytes : goal.invariant-bytes
invariant-bytes l = record {
  value : words.before_comment l.text ≡ take l.taken l.text ++ words.before_comment l.rest;
  rest : l.rest ≡ drop l.taken l.text;
  within : l.taken ≤ length l.text;
}

abbrev pub decreases-bytes : goal.decreases-bytes
decreases-bytes l = length l.rest
