use Rattle.std.proofs.Common.{◌++◌, Option, None, Ok, subst, ◌∙◌, ap, length}
use Rattle.ps_lines.specs.declared.lines.Line.{Line}
use Rattle.std.specs.Prelude.{Result}
use Rattle.ps_store.specs.declared.readings.TakeFault.{TakeFault}
use Rattle.ps_session.specs.Kept.{state_of}
use Rattle.ps_streams.specs.declared.outcomes.TurnOutcome.{TurnOutcome}
use Rattle.ps_serve.specs.Answers.{head_text}
use Rattle.ps_serve.specs.Readers.{HasTurnedAt, seen}
use Rattle.ps_serve.specs.Runs.{lines_text, list_of}
use Rattle.ps_serve.proofs.Starting.{begins_ok, way}
use Rattle.ps_serve.proofs.shared.take_first.Goals as goal

pub turn_through-reader-requires-clause-way : goal.turn_through-reader-requires-clause-way
turn_through-reader-requires-clause-way g c =
    (length (seen c.args.reader), way c.args.desk.now.lock.now c.args.reader c.args.session.now.asker (state_of c.args.session.now) c.requires.start)

pub returns-in-Ok-first_bytes-clause-begins : goal.returns-in-Ok-first_bytes-clause-begins
returns-in-Ok-first_bytes-clause-begins g c =
    let lock = c.args.desk.now.lock.now in
    let after = c.turn_through-reader.result.0 in
    let asker = c.args.session.now.asker in
    let s = state_of c.args.session.now in
    let s' = state_of c.turn_through-reader.new.session in
    let turned : HasTurnedAt lock c.args.reader after asker s s' (Ok c.in-Ok.outcome) =
    subst (λ (r : Result TurnOutcome TakeFault). HasTurnedAt lock c.args.reader after asker s s' r) c.in-Ok.is c.turn_through-reader.ensures.turns in
    begins_ok lock c.args.reader asker s c.requires.start after s' c.in-Ok.outcome c.in-Ok-first_bytes.bytes turned
    (c.in-Ok-first_bytes.ensures ∙ ap (λ (line : Option Line). head_text 200 None ++ lines_text (list_of line)) c.into_line.ensures.line)
