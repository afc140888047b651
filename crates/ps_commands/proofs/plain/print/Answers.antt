-- A text that was found is printed, in whole or in part.
use Rattle.std.proofs.Common.{subst, refl}
use Rattle.std.proofs.lemmas.Result.{err_from_is_err_and}
use Rattle.ps_io.specs.Contents.{Gains, GainsFront}
use Rattle.ps_commands.specs.Meanings.{prints}
use Rattle.ps_commands.proofs.plain.print.Goals as goal

pub returns-in_err-text-clause-outcome : goal.returns-in_err-text-clause-outcome
returns-in_err-text-clause-outcome g c =
    let p = err_from_is_err_and c.from_residual.result c.from_residual.ensures.1 in
    rw (p.1, p.2) (λ held before now words finds. (rw c.in_err-text.was at finds) (g.K.Sink.taken c.args.out.now) (g.K.Sink.faults c.args.out.now))

pub returns-in-Ok-clause-outcome : goal.returns-in-Ok-clause-outcome
returns-in-Ok-clause-outcome g c = λ held before now words finds.
    record {
      meant = prints c.in_ok-text.text.items;
      means = rw c.in_ok-text.was at finds;
      text = c.in_ok-text.text.items;
      says = refl;
      printed = subst (λ bytes. Gains (g.K.Sink.taken c.args.out.now) (g.K.Sink.taken c.write.new.self) bytes) c.as_slice.ensures.value c.in-Ok.ensures.ok;
    }

pub returns-clause-outcome : goal.returns-clause-outcome
returns-clause-outcome g c = λ held before now words finds. (
  record {
    meant = prints c.in_ok-text.text.items;
    means = rw c.in_ok-text.was at finds;
    text = c.in_ok-text.text.items;
    begins = refl;
    printed = subst (λ bytes. GainsFront (g.K.Sink.taken c.args.out.now) (g.K.Sink.taken c.write.new.self) bytes) c.as_slice.ensures.value c.in-Err.ensures.err;
  },
  c.in-Err.ensures.failed,
)

pub returns-in_err-text-clause-missed : goal.returns-in_err-text-clause-missed
returns-in_err-text-clause-missed g c =
    let p = err_from_is_err_and c.from_residual.result c.from_residual.ensures.1 in
    rw (p.1, p.2) (λ before after missed. rw c.in_err-text.was at missed)

pub returns-in-Ok-clause-missed : goal.returns-in-Ok-clause-missed
returns-in-Ok-clause-missed g c = λ before after missed. rw c.in_ok-text.was at missed

pub returns-clause-missed : goal.returns-clause-missed
returns-clause-missed g c = λ before after missed. rw c.in_ok-text.was at missed
