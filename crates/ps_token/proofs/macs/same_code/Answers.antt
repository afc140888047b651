use Rattle.std.proofs.Common.{refl, arith}
use Rattle.ps_token.proofs.Bytes.{same_more, same_all}
use Rattle.ps_token.proofs.macs.same_code.Goals as goal

pub bytes-init : goal.bytes-init
bytes-init c = (λ _. refl, λ _. refl)

pub bytes-preserved : goal.bytes-preserved
bytes-preserved c = same_more c.bytes.difference c.bytes.place c.args.code.now c.args.other.now (omega arith) (omega arith) c.bytes.invariant

pub returns : goal.returns
returns c = same_all c.bytes.difference c.bytes.place c.args.code.now c.args.other.now (omega arith) (omega arith) c.bytes.invariant
