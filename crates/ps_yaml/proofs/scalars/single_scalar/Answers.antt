use Rattle.std.proofs.Common.{◌≡◌, ◌+◌, Some, drop, sym, ap, ◌∙◌, arith}
use Rattle.ps_yaml.specs.Scalars.{single_quoted}
use Rattle.ps_yaml.proofs.Utf8.{single_text, behind_byte}
use Rattle.ps_yaml.proofs.scalars.single_scalar.Goals as goal

pub closed-requires-clause-utf8 : goal.closed-requires-clause-utf8
closed-requires-clause-utf8 c =
    let body = drop (c.args.offset + 1) c.args.line.now.text in
    let whole = behind_byte c.args.line.now.text c.args.offset 39 (omega arith) (omega arith) c.requires.quote c.requires.utf8 in
    let value = rw c.in-Some.is at c.in_ok-text.ensures.value in
    let found : single_quoted body ≡ Some (c.in-Some.text.items, c.in-Some.after.now) =
    ap single_quoted (sym (c.past.ensures ∙ ap (drop (c.args.offset + 1)) c.text.ensures.value)) ∙ sym value in
    let text = single_text body (c.in-Some.text.items, c.in-Some.after.now) whole found in
    rw c.deref.ensures.value text
