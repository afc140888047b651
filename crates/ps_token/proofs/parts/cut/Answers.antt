use Rattle.ps_token.proofs.Cuts.{cut_whole}
use Rattle.ps_token.proofs.parts.cut.Goals as goal

pub bytes-init : goal.bytes-init
bytes-init c = cut_whole c.args.text.now
