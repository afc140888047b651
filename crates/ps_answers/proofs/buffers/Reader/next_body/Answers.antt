-- What comes is behind what was read.
use Rattle.std.proofs.Common.{◌∙◌, Ok, ap, refl, arith}
use Rattle.ps_answers.specs.Readers.{left_of, part_of}
use Rattle.ps_answers.proofs.Answering.{TakesBody-whole, TakesBody-end}
use Rattle.ps_answers.proofs.buffers.Reader.next_body.Goals as goal

pub parts-init : goal.parts-init
parts-init g c = record { given = λ before given. given; told = refl; faults = refl; number = refl }

pub returns-then-left-length-clause-body : goal.returns-then-left-length-clause-body
returns-then-left-length-clause-body g c before given =
    TakesBody-whole (g.S.Source.input c.parts.from) before (left_of c.parts.self) (part_of c.cut.new.self) (left_of c.cut.new.self) c.args.length
    (c.parts.invariant.given before given) (omega (arith, c.left-left.ensures, c.if-left-length.true)) c.cut.ensures.part c.cut.ensures.left

pub returns-in-Ok-eq0-clause-body : goal.returns-in-Ok-eq0-clause-body
returns-in-Ok-eq0-clause-body g c before given =
    TakesBody-end (g.S.Source.input c.read_on.new.from) before (left_of c.parts.self) (part_of c.read_on.new.self) (left_of c.read_on.new.self) c.in-Ok-eq0.field-0
    c.args.length (c.in-Ok-eq0.ensures.given before (c.parts.invariant.given before given)) (omega (arith, c.left-left.ensures, c.if-left-length.false))
    c.in-Ok-eq0.ensures.grows.1 c.in-Ok-eq0.field-0-test (c.in-Ok-eq0.ensures.end (ap Ok c.in-Ok-eq0.field-0-test))

pub parts-preserved : goal.parts-preserved
parts-preserved g c = record {
  given = λ before given. c.in-Ok.ensures.given before (c.parts.invariant.given before given);
  told = c.in-Ok.ensures.told ∙ c.parts.invariant.told;
  faults = c.in-Ok.ensures.quiet (λ is. cc) ∙ c.parts.invariant.faults;
  number = c.in-Ok.ensures.number ∙ c.parts.invariant.number;
}
