-- What was looked at has no feed, and what comes is behind it.
use Rattle.std.proofs.Common.{◌∙◌, [], Ok, length, sym, ap, refl, subst, arith}
use Rattle.std.proofs.lemmas.List.{append-nil}
use Rattle.ps_answers.specs.Lines.{HasNoFeed}
use Rattle.ps_answers.specs.Readers.{left_of, part_of}
use Rattle.ps_answers.proofs.Answering.{TakesLine-found, TakesLine-end, clean_on, fits_still}
use Rattle.ps_answers.proofs.Feeds.{LeavesFew-found}
use Rattle.ps_answers.proofs.buffers.Reader.next_line.Goals as goal

pub parts-init : goal.parts-init
parts-init g c = record {
  given = λ before given. given;
  told = refl;
  faults = refl;
  number = refl;
  within = omega arith;
  clean = λ k below. absurd (omega (arith, below));
  ahead = λ few. omega (arith, few);
}

pub returns-in-Some-clause-line : goal.returns-in-Some-clause-line
returns-in-Some-clause-line g c before given =
    TakesLine-found (g.S.Source.input c.parts.from) before (left_of c.parts.self) (part_of c.take_found.new.self)
    (left_of c.take_found.new.self) c.take_found.result (c.parts.invariant.given before given) c.take_found.ensures

pub returns-in-Some-clause-ahead : goal.returns-in-Some-clause-ahead
returns-in-Some-clause-ahead g c few =
    LeavesFew-found (left_of c.parts.self) (part_of c.take_found.new.self) (left_of c.take_found.new.self) c.parts.looked c.take_found.result
    c.parts.invariant.within c.parts.invariant.clean (c.parts.invariant.ahead few) c.take_found.ensures

pub returns-then-looked-gt-LINE_LIMIT-clause-line : goal.returns-then-looked-gt-LINE_LIMIT-clause-line
returns-then-looked-gt-LINE_LIMIT-clause-line g c before given = (
  left_of c.parts.self,
  c.parts.invariant.given before given,
  record {
    line = left_of c.parts.self;
    rest = [];
    bytes_are = sym (append-nil (left_of c.parts.self));
    no_feed = subst HasNoFeed c.rest.ensures c.in-None.ensures;
    seen_is = c.left-looked.ensures;
    more = omega (arith, c.if-looked-gt-LINE_LIMIT.true);
  },
)

pub returns-in-Ok-eq0-clause-line : goal.returns-in-Ok-eq0-clause-line
returns-in-Ok-eq0-clause-line g c before given =
    TakesLine-end (g.S.Source.input c.read_on.new.from) before (left_of c.parts.self) (part_of c.read_on.new.self) (left_of c.read_on.new.self) c.in-Ok-eq0.field-0
    (c.in-Ok-eq0.ensures.given before (c.parts.invariant.given before given)) (subst HasNoFeed c.rest.ensures c.in-None.ensures, omega (arith, c.left-looked.ensures, c.if-looked-gt-LINE_LIMIT.false))
    c.in-Ok-eq0.ensures.grows.0 c.in-Ok-eq0.ensures.grows.1 c.in-Ok-eq0.field-0-test (c.in-Ok-eq0.ensures.end (ap Ok c.in-Ok-eq0.field-0-test))

pub returns-in-Err-Failed-clause-line : goal.returns-in-Err-Failed-clause-line
returns-in-Err-Failed-clause-line g c before given = (
  c.in-Err-Failed.ensures.given before (c.parts.invariant.given before given),
  fits_still (left_of c.parts.self) (left_of c.read_on.new.self) c.in-Err-Failed.ensures.grows (subst HasNoFeed c.rest.ensures c.in-None.ensures)
      (omega (arith, c.left-looked.ensures, c.if-looked-gt-LINE_LIMIT.false)),
)

pub returns-in-Err-Memory-clause-line : goal.returns-in-Err-Memory-clause-line
returns-in-Err-Memory-clause-line g c before given = (
  c.in-Err-Memory.ensures.given before (c.parts.invariant.given before given),
  fits_still (left_of c.parts.self) (left_of c.read_on.new.self) c.in-Err-Memory.ensures.grows (subst HasNoFeed c.rest.ensures c.in-None.ensures)
      (omega (arith, c.left-looked.ensures, c.if-looked-gt-LINE_LIMIT.false)),
)

pub returns-in-Err-Failed-clause-ahead : goal.returns-in-Err-Failed-clause-ahead
returns-in-Err-Failed-clause-ahead g c few =
    omega (arith, ap length c.in-Err-Failed.ensures.grows, c.left-looked.ensures, c.if-looked-gt-LINE_LIMIT.false)

pub returns-in-Err-Memory-clause-ahead : goal.returns-in-Err-Memory-clause-ahead
returns-in-Err-Memory-clause-ahead g c few =
    omega (arith, ap length c.in-Err-Memory.ensures.grows, c.left-looked.ensures, c.if-looked-gt-LINE_LIMIT.false)

pub returns-in-Ok-eq0-clause-ahead : goal.returns-in-Ok-eq0-clause-ahead
returns-in-Ok-eq0-clause-ahead g c few =
    omega (arith, c.in-Ok-eq0.ensures.grows.1, c.in-Ok-eq0.field-0-test, c.left-looked.ensures, c.if-looked-gt-LINE_LIMIT.false)

pub parts-preserved : goal.parts-preserved
parts-preserved g c = record {
  given = λ before given. c.in-Ok.ensures.given before (c.parts.invariant.given before given);
  told = c.in-Ok.ensures.told ∙ c.parts.invariant.told;
  faults = c.in-Ok.ensures.quiet (λ is. cc) ∙ c.parts.invariant.faults;
  number = c.in-Ok.ensures.number ∙ c.parts.invariant.number;
  within = omega (arith, c.left-looked.ensures, c.in-Ok.ensures.grows.1);
  clean = clean_on (left_of c.parts.self) (left_of c.read_on.new.self) c.left-looked.result c.left-looked.ensures
      (subst HasNoFeed c.rest.ensures c.in-None.ensures) c.in-Ok.ensures.grows.0;
  ahead = λ few. omega (arith, c.left-looked.ensures, c.in-Ok.ensures.grows.1, c.in-Ok.ensures.few);
}
