use Rattle.std.proofs.Common.{◌≡◌, ◌+◌, length, option_map}
use Rattle.ps_yaml.specs.Scalars as words
use Rattle.ps_yaml.proofs.scalars.double_quoted.Given as goal

abbrev pub invariant-bytes : goal.invariant-bytes
invariant-bytes l = record {
  value : words.double_quoted l.text ≡ option_map (λ n. n + l.taken) (words.double_quoted l.rest);
  shorter : l.taken + length l.rest ≡ length l.text;
}

abbrev pub decreases-bytes : goal.decreases-bytes
decreases-bytes l = length l.rest
