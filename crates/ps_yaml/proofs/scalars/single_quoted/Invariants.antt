use Rattle.std.proofs.Common.{◌≡◌, ◌≤◌, length}
use Rattle.ps_yaml.specs.Scalars as words
use Rattle.ps_yaml.proofs.scalars.single_quoted.Given as goal

abbrev pub invariant-bytes : goal.invariant-bytes
invariant-bytes l = record {
  value : words.single_quoted l.text ≡ words.with_front l.read.items (words.single_quoted l.rest);
  shorter : length l.rest ≤ length l.text;
}

abbrev pub decreases-bytes : goal.decreases-bytes
decreases-bytes l = length l.rest
