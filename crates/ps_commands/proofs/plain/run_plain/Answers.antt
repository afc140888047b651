-- Each clause by the cause of how the command ended.
use Rattle.ps_commands.proofs.Exactness.{exact_ok, exact_no, exact_err, limits_by, changes_by, claims_by, unread_by, unwritten_by, script_by, early_by, first_by, kept_by, missed_by, known_by, not_altered, not_quiet}
use Rattle.ps_commands.proofs.plain.run_plain.Goals as goal

pub returns-in-Ok-Done-clause-exact : goal.returns-in-Ok-Done-clause-exact
returns-in-Ok-Done-clause-exact g c = λ read written.
    exact_ok (g.F.Files.held c.args.files.now) c.args.words.now (g.K.Sink.taken c.args.out.now) (g.K.Sink.taken c.command.new.out) (rw c.in-Ok-Done.field-0-is at c.in-Ok-Done.ensures.outcome)

pub returns-in-Ok-Altered-clause-exact : goal.returns-in-Ok-Altered-clause-exact
returns-in-Ok-Altered-clause-exact g c = λ read written.
    exact_no (g.F.Files.held c.args.files.now) c.args.words.now (g.K.Sink.taken c.args.out.now) (g.K.Sink.taken c.command.new.out) (rw c.in-Ok-Altered.field-0-is at c.in-Ok-Altered.ensures.outcome)

pub returns-in-Err-clause-exact : goal.returns-in-Err-clause-exact
returns-in-Err-clause-exact g c = λ read written.
    exact_err (g.F.Files.held c.args.files.now) c.args.words.now (g.F.Files.faults c.args.files.now) (g.F.Files.faults c.command.new.files)
    (g.K.Sink.taken c.args.out.now) (g.K.Sink.taken c.command.new.out) (g.K.Sink.faults c.args.out.now) (g.K.Sink.faults c.command.new.out)
    c.say.result c.in-Err.fault c.in-Err.ensures.outcome c.say.ensures.is read written

pub returns-in-Err-clause-limits : goal.returns-in-Err-clause-limits
returns-in-Err-clause-limits g c = λ five.
    limits_by (record { held = g.F.Files.held c.args.files.now; read_before = g.F.Files.faults c.args.files.now; read_now = g.F.Files.faults c.command.new.files; taken_before = g.K.Sink.taken c.args.out.now; taken_now = g.K.Sink.taken c.command.new.out; write_before = g.K.Sink.faults c.args.out.now; write_now = g.K.Sink.faults c.command.new.out }) c.args.words.now c.say.result c.in-Err.fault c.in-Err.ensures.outcome c.say.ensures.is five

pub returns-in-Err-clause-claims : goal.returns-in-Err-clause-claims
returns-in-Err-clause-claims g c = λ status.
    claims_by (record { held = g.F.Files.held c.args.files.now; read_before = g.F.Files.faults c.args.files.now; read_now = g.F.Files.faults c.command.new.files; taken_before = g.K.Sink.taken c.args.out.now; taken_now = g.K.Sink.taken c.command.new.out; write_before = g.K.Sink.faults c.args.out.now; write_now = g.K.Sink.faults c.command.new.out }) c.args.words.now c.say.result c.in-Err.fault c.in-Err.ensures.outcome c.say.ensures.is status

pub returns-in-Err-clause-unread : goal.returns-in-Err-clause-unread
returns-in-Err-clause-unread g c = λ status.
    unread_by (record { held = g.F.Files.held c.args.files.now; read_before = g.F.Files.faults c.args.files.now; read_now = g.F.Files.faults c.command.new.files; taken_before = g.K.Sink.taken c.args.out.now; taken_now = g.K.Sink.taken c.command.new.out; write_before = g.K.Sink.faults c.args.out.now; write_now = g.K.Sink.faults c.command.new.out }) c.args.words.now (g.F.Files.missed c.args.files.now) (g.F.Files.missed c.command.new.files) c.say.result c.in-Err.fault c.in-Err.ensures.outcome c.in-Err.ensures.missed c.say.ensures.is status

pub returns-in-Err-clause-missed : goal.returns-in-Err-clause-missed
returns-in-Err-clause-missed g c = λ other.
    missed_by (g.F.Files.missed c.args.files.now) (g.F.Files.missed c.command.new.files) c.say.result c.in-Err.fault c.in-Err.ensures.missed c.say.ensures.is other

pub returns-in-Err-clause-unwritten : goal.returns-in-Err-clause-unwritten
returns-in-Err-clause-unwritten g c = λ status.
    unwritten_by (record { held = g.F.Files.held c.args.files.now; read_before = g.F.Files.faults c.args.files.now; read_now = g.F.Files.faults c.command.new.files; taken_before = g.K.Sink.taken c.args.out.now; taken_now = g.K.Sink.taken c.command.new.out; write_before = g.K.Sink.faults c.args.out.now; write_now = g.K.Sink.faults c.command.new.out }) c.args.words.now c.say.result c.in-Err.fault c.in-Err.ensures.outcome c.say.ensures.is status

pub returns-in-Err-clause-changes : goal.returns-in-Err-clause-changes
returns-in-Err-clause-changes g c = λ status.
    changes_by (record { held = g.F.Files.held c.args.files.now; read_before = g.F.Files.faults c.args.files.now; read_now = g.F.Files.faults c.command.new.files; taken_before = g.K.Sink.taken c.args.out.now; taken_now = g.K.Sink.taken c.command.new.out; write_before = g.K.Sink.faults c.args.out.now; write_now = g.K.Sink.faults c.command.new.out }) c.args.words.now c.say.result c.in-Err.fault c.in-Err.ensures.outcome c.say.ensures.is status

pub returns-in-Err-clause-script : goal.returns-in-Err-clause-script
returns-in-Err-clause-script g c = λ status.
    script_by (record { held = g.F.Files.held c.args.files.now; read_before = g.F.Files.faults c.args.files.now; read_now = g.F.Files.faults c.command.new.files; taken_before = g.K.Sink.taken c.args.out.now; taken_now = g.K.Sink.taken c.command.new.out; write_before = g.K.Sink.faults c.args.out.now; write_now = g.K.Sink.faults c.command.new.out }) c.args.words.now c.say.result c.in-Err.fault c.in-Err.ensures.outcome c.say.ensures.is status

pub returns-in-Err-clause-early : goal.returns-in-Err-clause-early
returns-in-Err-clause-early g c = λ status.
    early_by (record { held = g.F.Files.held c.args.files.now; read_before = g.F.Files.faults c.args.files.now; read_now = g.F.Files.faults c.command.new.files; taken_before = g.K.Sink.taken c.args.out.now; taken_now = g.K.Sink.taken c.command.new.out; write_before = g.K.Sink.faults c.args.out.now; write_now = g.K.Sink.faults c.command.new.out }) c.args.words.now c.say.result c.in-Err.fault c.in-Err.ensures.outcome c.say.ensures.is status

pub returns-in-Err-clause-first : goal.returns-in-Err-clause-first
returns-in-Err-clause-first g c = λ status.
    first_by (record { held = g.F.Files.held c.args.files.now; read_before = g.F.Files.faults c.args.files.now; read_now = g.F.Files.faults c.command.new.files; taken_before = g.K.Sink.taken c.args.out.now; taken_now = g.K.Sink.taken c.command.new.out; write_before = g.K.Sink.faults c.args.out.now; write_now = g.K.Sink.faults c.command.new.out }) c.args.words.now c.say.result c.in-Err.fault c.in-Err.ensures.outcome c.say.ensures.is status

pub returns-in-Err-clause-kept : goal.returns-in-Err-clause-kept
returns-in-Err-clause-kept g c = λ zero seven eight nine fifteen.
    kept_by (record { held = g.F.Files.held c.args.files.now; read_before = g.F.Files.faults c.args.files.now; read_now = g.F.Files.faults c.command.new.files; taken_before = g.K.Sink.taken c.args.out.now; taken_now = g.K.Sink.taken c.command.new.out; write_before = g.K.Sink.faults c.args.out.now; write_now = g.K.Sink.faults c.command.new.out }) c.args.words.now c.say.result c.in-Err.fault c.in-Err.ensures.outcome c.say.ensures.is seven eight nine

pub returns-in-Ok-Done-clause-done : goal.returns-in-Ok-Done-clause-done
returns-in-Ok-Done-clause-done g c = λ zero. rw c.in-Ok-Done.field-0-is at c.in-Ok-Done.ensures.outcome

pub returns-in-Ok-Altered-clause-altered : goal.returns-in-Ok-Altered-clause-altered
returns-in-Ok-Altered-clause-altered g c = λ fifteen. rw c.in-Ok-Altered.field-0-is at c.in-Ok-Altered.ensures.outcome

pub returns-in-Err-clause-known : goal.returns-in-Err-clause-known
returns-in-Err-clause-known g c = known_by c.say.result c.in-Err.fault c.say.ensures.is

pub returns-in-Err-clause-altered : goal.returns-in-Err-clause-altered
returns-in-Err-clause-altered g c = λ fifteen. absurd (not_altered c.say.result c.in-Err.fault c.say.ensures.is fifteen)

pub returns-in-Err-clause-quiet : goal.returns-in-Err-clause-quiet
returns-in-Err-clause-quiet g c = λ quiet. absurd (not_quiet c.say.result c.in-Err.fault c.say.ensures.is quiet)
