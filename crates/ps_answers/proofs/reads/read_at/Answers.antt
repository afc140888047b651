-- What is read stands behind what was there.
use Rattle.std.proofs.Common.{◌≡◌, ◌-◌, ◌≤◌, ◌++◌, length, take, drop, arith, sym, subst, ap, ◌∙◌, append_assoc}
use Rattle.std.proofs.lemmas.List.{length-take, length-drop}
use Rattle.ps_answers.specs.Givings.{HasGiven}
use Rattle.ps_answers.proofs.Givings.{HasGiven-read}
use Rattle.ps_answers.proofs.Fillings.{take-filled}
use Rattle.ps_answers.proofs.reads.read_at.Goals as goal

pub returns-in-Ok-clause-given : goal.returns-in-Ok-clause-given
returns-in-Ok-clause-given g c before given =
    let buffer = c.args.buffer.now in
    let place = c.args.place in
    let count = c.in-Ok.count in
    let part = c.read.new.into in
    let long : length part ≡ length buffer - place = omega (arith, c.read.auto.into, length-take (length buffer - place) (drop place buffer), length-drop place buffer) in
    let fits : count ≤ length part = omega (arith, c.in-Ok.ensures.fits, c.read.auto.into) in
    let within : place ≤ length buffer = omega (arith, c.requires) in
    let came = HasGiven-read _ _ (before ++ take place buffer) part count c.in-Ok.ensures.next c.in-Ok.ensures.end given in
    subst (HasGiven (g.S.Source.input c.read.new.self))
    (append_assoc before (take place buffer) (take count part) ∙ ap (λ x. before ++ x) (sym (take-filled buffer part place count within fits)))
    came
