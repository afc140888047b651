use Rattle.std.proofs.Common.{◌≡◌, ℕ, ◌+◌, ◌<◌, List, get_or, length, ap, ◌∙◌, arith}
use Rattle.std.specs.Prelude.{bit_xor}
use Rattle.std.proofs.Math.ListN.{set}
use Rattle.ps_token.proofs.Bytes.{Combined, combined_more}
use Rattle.ps_token.proofs.macs.masked.Goals as goal

pub bytes-preserved : goal.bytes-preserved
bytes-preserved c =
    let f : ℕ → ℕ = λ byte. bit_xor byte c.args.pad in
    let i = c.bytes.place in
    let within : i < length c.args.block.now = omega arith in
    let next : set c.bytes.masked i (f (get_or c.bytes.masked i 0)) ≡ Combined f c.args.block.now (i + 1) =
    ap (λ (xs : List ℕ). set xs i (f (get_or xs i 0))) c.bytes.invariant ∙ combined_more f c.args.block.now i within in
    next
