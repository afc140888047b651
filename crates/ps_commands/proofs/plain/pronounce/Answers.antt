-- A verdict that was found is printed, in whole or in part.
use Rattle.std.proofs.Common.{inl, refl, subst}
use Rattle.std.proofs.lemmas.Result.{err_from_is_err_and}
use Rattle.ps_io.specs.Contents.{Gains, GainsFront}
use Rattle.ps_commands.specs.Causes.{Outside}
use Rattle.ps_commands.specs.Meanings.{judges}
use Rattle.ps_commands.proofs.Verdicts.{pronounced}
use Rattle.ps_commands.proofs.plain.pronounce.Goals as goal

pub returns-in_err-verdict-clause-outcome : goal.returns-in_err-verdict-clause-outcome
returns-in_err-verdict-clause-outcome g c =
    let p = err_from_is_err_and c.from_residual.result c.from_residual.ensures.1 in
    rw (p.1, p.2) (λ held before now words finds. (rw c.in_err-verdict.was at finds) (g.K.Sink.taken c.args.out.now) (g.K.Sink.faults c.args.out.now))

pub returns-in_err-text-clause-outcome : goal.returns-in_err-text-clause-outcome
returns-in_err-text-clause-outcome g c =
    let p = err_from_is_err_and c.from_residual-in_err-text.result c.from_residual-in_err-text.ensures.1 in
    rw (p.1, p.2) (λ held before now words finds. let found = rw c.in_ok-verdict.was at finds in (found.0, inl refl))

pub returns-in-Ok-clause-outcome : goal.returns-in-Ok-clause-outcome
returns-in-Ok-clause-outcome g c = λ held before now words finds.
    let found = rw c.in_ok-verdict.was at finds in
    let o : Outside = record { held = held; read_before = before; read_now = now; taken_before = g.K.Sink.taken c.args.out.now; taken_now = g.K.Sink.taken c.write.new.self; write_before = g.K.Sink.faults c.args.out.now; write_now = g.K.Sink.faults c.write.new.self } in
    let text = subst (λ bytes. Gains (g.K.Sink.taken c.args.out.now) (g.K.Sink.taken c.write.new.self) bytes) c.as_slice.ensures.value c.in-Ok.ensures.ok in
    let printed = subst (λ bytes. Gains (g.K.Sink.taken c.args.out.now) (g.K.Sink.taken c.write.new.self) bytes) c.in_ok-text.ensures text in
    rw c.ending_of.ensures (pronounced o words found.1 found.2 c.in_ok-verdict.verdict found.3 printed)

pub returns-clause-outcome : goal.returns-clause-outcome
returns-clause-outcome g c = λ held before now words finds.
    let found = rw c.in_ok-verdict.was at finds in (
      record {
        meant = judges found.1;
        means = found.2;
        text = c.in_ok-text.text.items;
        begins = (c.in_ok-verdict.verdict, found.3, c.in_ok-text.ensures);
        printed = subst (λ bytes. GainsFront (g.K.Sink.taken c.args.out.now) (g.K.Sink.taken c.write.new.self) bytes) c.as_slice.ensures.value c.in-Err.ensures.err;
      },
      c.in-Err.ensures.failed,
    )

pub returns-in_err-verdict-clause-missed : goal.returns-in_err-verdict-clause-missed
returns-in_err-verdict-clause-missed g c =
    let p = err_from_is_err_and c.from_residual.result c.from_residual.ensures.1 in
    rw (p.1, p.2) (λ before after missed. rw c.in_err-verdict.was at missed)

pub returns-in-Ok-clause-missed : goal.returns-in-Ok-clause-missed
returns-in-Ok-clause-missed g c = λ before after missed. rw c.in_ok-verdict.was at missed

pub returns-clause-missed : goal.returns-clause-missed
returns-clause-missed g c = λ before after missed. rw c.in_ok-verdict.was at missed
