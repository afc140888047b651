use Rattle.std.proofs.Common.{refl, sym, ap, ◌∙◌}
use Rattle.ps_lines.specs.Reading.{line_of}
use Rattle.ps_core.proofs.Altered.{data_line_at, data_waits, none_waits, oldest_altered}
use Rattle.ps_core.proofs.altering.alter_oldest.Goals as goal

pub rewritten-requires : goal.rewritten-requires
rewritten-requires c =
    let it = data_line_at c.args.waiting.now c.requires.0 c.in-Some.place c.index-waiting-place.result c.requires.1 (sym c.in-Some.ensures.value) in
    (it.0, ap line_of c.as_slice.ensures.value ∙ it.1, it.2)

pub returns-in-Ok-clause-alters : goal.returns-in-Ok-clause-alters
returns-in-Ok-clause-alters c = λ made are.
    oldest_altered c.args.waiting.now made c.in-Some.place _ c.index-waiting-place.result are (sym c.in-Some.ensures.value)
    (record { reads = λ line is. c.in-Ok.ensures line (ap line_of c.as_slice.ensures.value ∙ is); kind = refl })

pub returns-in-Err-clause-alters : goal.returns-in-Err-clause-alters
returns-in-Err-clause-alters c = λ made are. data_waits c.args.waiting.now made c.in-Some.place c.index-waiting-place.result are (sym c.in-Some.ensures.value)

pub returns-in_default-clause-alters : goal.returns-in_default-clause-alters
returns-in_default-clause-alters c = λ made are. (none_waits c.args.waiting.now made are (sym c.in_default.ensures.value), refl)
