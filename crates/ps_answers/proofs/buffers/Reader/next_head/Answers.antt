-- What comes is behind what was read.
use Rattle.std.proofs.Common.{◌≡◌, ◌∙◌, ◌≤◌, ap, refl, subst, arith, length, take}
use Rattle.ps_answers.specs.Heads.{IsAnswerHead, front_of}
use Rattle.ps_answers.specs.Readers.{left_of, part_of}
use Rattle.ps_answers.proofs.Answering.{TakesHead-whole, front_fits}
use Rattle.ps_answers.proofs.buffers.Reader.next_head.Goals as goal

pub parts-init : goal.parts-init
parts-init g c = record { given = λ before given. given; told = refl; faults = refl; number = refl; ahead = λ few. few }

pub parts-preserved : goal.parts-preserved
parts-preserved g c = record {
  given = λ before given. c.in-Ok.ensures.given before (c.parts.invariant.given before given);
  told = c.in-Ok.ensures.told ∙ c.parts.invariant.told;
  faults = c.in-Ok.ensures.quiet (λ is. cc) ∙ c.parts.invariant.faults;
  number = c.in-Ok.ensures.number ∙ c.parts.invariant.number;
  ahead = λ few. omega (arith, c.in-Ok.ensures.grows.1, c.in-Ok.ensures.few, c.left.ensures, c.if-left-ge-HEAD_LIMIT.false);
}

pub cut-requires : goal.cut-requires
cut-requires g c =
    let is_front : c.front.result.now ≡ front_of (left_of c.parts.self) = c.front.ensures.front ∙ ap front_of c.rest.ensures in
    omega (arith, front_fits (left_of c.parts.self) c.in-Head.length (subst (λ x. c.in-Head.length ≤ length x) is_front c.in-Head.ensures.0))

pub returns-in-Head-clause-head : goal.returns-in-Head-clause-head
returns-in-Head-clause-head g c before given =
    let is_front : c.front.result.now ≡ front_of (left_of c.parts.self) = c.front.ensures.front ∙ ap front_of c.rest.ensures in
    TakesHead-whole (g.S.Source.input c.parts.from) before (left_of c.parts.self) (part_of c.cut.new.self) (left_of c.cut.new.self) c.in-Head.length
    c.in-Head.head (c.parts.invariant.given before given) (subst (λ x. c.in-Head.length ≤ length x) is_front c.in-Head.ensures.0)
    (subst (λ x. IsAnswerHead (take c.in-Head.length x) c.in-Head.head) is_front c.in-Head.ensures.1) c.cut.ensures.part c.cut.ensures.left
