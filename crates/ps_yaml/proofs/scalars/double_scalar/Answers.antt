use Rattle.std.proofs.Common.{◌≡◌, ◌+◌, Some, Ok, drop, take, arith}
use Rattle.ps_yaml.specs.Scalars.{double_quoted, unescaped}
use Rattle.ps_yaml.proofs.Utf8.{double_text, unescaped_text, behind_byte}
use Rattle.ps_yaml.proofs.scalars.double_scalar.Goals as goal

pub closed-requires-clause-utf8 : goal.closed-requires-clause-utf8
closed-requires-clause-utf8 c =
    let body = drop (c.args.offset + 1) c.args.line.now.text in
    let whole = behind_byte c.args.line.now.text c.args.offset 34 (omega arith) (omega arith) c.requires.quote c.requires.utf8 in
    let found : double_quoted body ≡ Some c.in-Some.taken = cc (c.in-Some.ensures.value) in
    let part = double_text body c.in-Some.taken whole found in
    let read : unescaped c.args.line.now (c.args.offset + 1) (take c.in-Some.taken body) ≡ Ok c.in_ok-text.text.items = cc (c.in_ok-text.ensures) in
    let text = unescaped_text (take c.in-Some.taken body) c.args.line.now (c.args.offset + 1) c.in_ok-text.text.items part read in
    cc (c.deref.ensures.value)
