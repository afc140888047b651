use Rattle.std.proofs.Common.{◌≡◌, ◌+◌, ◌≤◌, ◌++◌, List, ℕ, length, Ok}
use Rattle.ps_data.specs.Chains.{◌>>=◌}
use Rattle.ps_yaml.specs.Scalars as words
use Rattle.ps_yaml.proofs.scalars.unescaped.Given as goal

abbrev pub invariant-bytes : goal.invariant-bytes
invariant-bytes l = record {
  value : words.unescaped l.line l.offset l.text ≡ (words.unescaped l.line l.place l.rest >>= (λ (bytes : List ℕ). Ok (l.read.items ++ bytes)));
  within : l.place + length l.rest ≤ length l.line.text;
}

abbrev pub decreases-bytes : goal.decreases-bytes
decreases-bytes l = length l.rest
