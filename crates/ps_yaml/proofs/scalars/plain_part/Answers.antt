use Rattle.ps_yaml.proofs.Utf8.{comment_text}
use Rattle.std.proofs.Common.{subst, sym, List, ℕ}
use Rattle.ps_yaml.specs.Lines.{IsText}
use Rattle.ps_yaml.proofs.scalars.plain_part.Goals as goal

pub returns-clause-utf8 : goal.returns-clause-utf8
returns-clause-utf8 c = λ h. c.trimmed.ensures.utf8 (subst (λ (u : List ℕ). IsText u) (sym c.before_comment.ensures) (comment_text c.args.text.now h))
