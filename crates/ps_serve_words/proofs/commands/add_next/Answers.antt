use Rattle.std.proofs.Common.{◌∙◌, ap₂, refl}
use Rattle.std.proofs.lemmas.Result.{IfOk-weaker}
use Rattle.clap.specs.Simple.{with_rule}
use Rattle.ps_serve_words.proofs.commands.add_next.Goals as goal

pub returns : goal.returns
returns c = IfOk-weaker c.arg-2.result _ _
    (λ made adds. adds.shape c.none_yet.ensures.local
    ∙ ap₂ with_rule (c.in_ok-arg.ensures.shape c.some_text.ensures.local ∙ ap₂ with_rule refl c.some_text.ensures.rule) c.none_yet.ensures.rule) c.arg-2.ensures
