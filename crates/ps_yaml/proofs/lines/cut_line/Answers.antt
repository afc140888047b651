use Rattle.std.proofs.Common.{sym}
use Rattle.ps_yaml.proofs.Utf8.{feed_text}
use Rattle.ps_yaml.proofs.lines.cut_line.Goals as goal

pub returns-clause-utf8 : goal.returns-clause-utf8
returns-clause-utf8 c = λ h.
    let parts = feed_text c.args.text.now c.in_ok-end.end (sym c.in_ok-end.ensures.value) h in
    let line = parts.0 in
    let after = parts.1 in
    ((cc), (cc))
