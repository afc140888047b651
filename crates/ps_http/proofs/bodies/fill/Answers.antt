-- Each read adds to the front of the buffer what the source hands out.
use Rattle.std.proofs.Common.{◌≡◌, ◌-◌, ◌<◌, ◌≤◌, length, take, drop, arith, sym, subst, ◌∙◌}
use Rattle.std.proofs.lemmas.List.{length-take-le, length-take, length-drop}
use Rattle.ps_io.specs.Sources.{Gives}
use Rattle.ps_http.proofs.Givings.{Gives-append, GivesAll-append}
use Rattle.ps_http.proofs.Fillings.{take-filled, length-filled}
use Rattle.ps_http.proofs.bodies.fill.Goals as goal

pub returns-in-Ok-eq0-clause-fills : goal.returns-in-Ok-eq0-clause-fills
returns-in-Ok-eq0-clause-fills g c =
    let into = c.parts.into in
    let filled = c.parts.filled in
    let part : length c.read.new.into ≡ length into - filled = omega (arith, c.read.auto.into, length-take (length into - filled) (drop filled into), length-drop filled into) in
    let within : filled ≤ length into = omega (arith, c.parts.invariant.within, c.parts.invariant.long) in (
      take filled into,
      GivesAll-append _ _ _ _ c.parts.invariant.given (c.in-Ok-eq0.ensures.end c.in-Ok-eq0.field-0-test),
      omega (arith, length-take-le filled into within, length-filled into c.read.new.into filled within part, c.parts.invariant.long),
    )

pub parts-preserved : goal.parts-preserved
parts-preserved g c =
    let into = c.parts.into in
    let filled = c.parts.filled in
    let part : length c.read.new.into ≡ length into - filled = omega (arith, c.read.auto.into, length-take (length into - filled) (drop filled into), length-drop filled into) in
    let within : filled ≤ length into = omega (arith, c.parts.invariant.within, c.parts.invariant.long) in
    let fits : c.in-Ok.count ≤ length c.read.new.into = omega (arith, c.in-Ok.ensures.fits, c.read.auto.into) in
    let some : 0 < c.in-Ok.count = omega (arith, c.in-Ok.count-test.1) in
    record {
      within = omega (arith, c.parts.invariant.long);
      long = length-filled into c.read.new.into filled within part ∙ c.parts.invariant.long;
      given = subst (λ bytes. Gives (g.S.Source.input c.args.from.now) (g.S.Source.input c.read.new.self) bytes)
          (sym (take-filled into c.read.new.into filled c.in-Ok.count within fits))
          (Gives-append _ _ _ _ _ c.parts.invariant.given (c.in-Ok.ensures.next some));
      faults = omega (arith, c.read.ensures.faults, c.parts.invariant.faults);
      number = c.read.ensures.number ∙ c.parts.invariant.number;
    }
