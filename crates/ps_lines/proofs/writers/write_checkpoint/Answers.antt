use Rattle.ps_lines.proofs.Tokens.{added, behind, with_upload}
use Rattle.ps_lines.proofs.writers.write_checkpoint.Goals as goal

pub returns-clause-value : goal.returns-clause-value
returns-clause-value c =
    behind (added c.in_ok-begin_object.ensures)
    (behind c.in_ok-write_entries.ensures.value
    (behind c.in_ok-write_decimal.ensures
    (with_upload c.args.number c.in_ok-write_upload.ensures (added c.in_ok-end_object.ensures))))
