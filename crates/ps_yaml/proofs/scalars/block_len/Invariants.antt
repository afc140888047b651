use Rattle.std.proofs.Common.{◌≡◌, ◌+◌, ◌≤◌, ◌==◌, if◌then◌else◌, ℕ, Ok, drop}
use Rattle.ps_data.specs.Chains.{◌>>=◌}
use Rattle.ps_yaml.specs.Scalars as words
use Rattle.ps_yaml.proofs.scalars.block_len.Given as goal

abbrev pub invariant-lines : goal.invariant-lines
invariant-lines l = record {
  value : words.block_len l.indent l.depth l.lines ≡ (words.block_len l.indent l.depth (drop l.place l.lines) >>= (λ (more : ℕ). Ok (if more == 0 then l.kept else l.place + more)));
  within : l.kept ≤ l.place;
}
