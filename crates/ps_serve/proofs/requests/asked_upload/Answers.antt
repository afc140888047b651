use Rattle.ps_serve.proofs.Filled.{all_filled}
use Rattle.ps_serve.proofs.requests.asked_upload.Goals as goal

pub returns-in-Ok-clause-filled : goal.returns-in-Ok-clause-filled
returns-in-Ok-clause-filled c = all_filled c.args.body.now c.in-Ok.changes c.in-Ok.ensures.found
