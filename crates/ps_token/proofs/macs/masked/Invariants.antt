use Rattle.std.proofs.Common.{◌≡◌, ℕ}
use Rattle.std.specs.Prelude.{bit_xor}
use Rattle.ps_token.proofs.Bytes.{Combined}
use Rattle.ps_token.proofs.macs.masked.Given as goal

-- the first bytes are combined
abbrev pub invariant-bytes : goal.invariant-bytes
invariant-bytes l = l.masked ≡ Combined (λ (byte : ℕ). bit_xor byte l.pad) l.block l.place
