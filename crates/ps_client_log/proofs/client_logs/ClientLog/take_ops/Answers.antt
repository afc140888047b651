use Rattle.std.proofs.Common.{◌≡◌, [], ◌∷◌, ap, ◌∙◌, rules, arith}
use Rattle.std.proofs.lemmas.Result.{on_ok_weaker}
use Rattle.ps_client_log.specs.declared.edits.Edit.TheVariants.{Take}
use Rattle.ps_client_log.specs.Edits.{with_edits}
use Rattle.ps_client_log.specs.Logs.{kept}
use Rattle.ps_client_log.proofs.Sound.{image_taken}
use Rattle.ps_client_log.proofs.client_logs.ClientLog.take_ops.Goals as goal

pub returns-clause-image : goal.returns-clause-image
returns-clause-image g c =
    let one : c.in_ok-edits.edits.items ≡ Take c.args.bucket.now c.args.ops.items ∷ [] = first_of (cc, search rules, grind arith) in
    on_ok_weaker c.apply.result
    (λ is before image. image_taken c.args.bucket.now c.args.ops.items before (kept c.args.self.now) (kept c.apply.new.self)
    (is ∙ ap (with_edits (kept c.args.self.now)) one) image)
    c.apply.ensures.ok
