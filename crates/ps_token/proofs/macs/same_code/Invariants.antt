use Rattle.ps_token.proofs.Bytes.{SameUpto}
use Rattle.ps_token.proofs.macs.same_code.Given as goal

abbrev pub invariant-bytes : goal.invariant-bytes
invariant-bytes l = SameUpto l.difference l.place l.code l.other
