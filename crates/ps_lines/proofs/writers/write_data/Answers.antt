use Rattle.ps_lines.proofs.Tokens.{added, behind}
use Rattle.ps_lines.proofs.writers.write_data.Goals as goal

pub returns-clause-value : goal.returns-clause-value
returns-clause-value c =
    behind (added c.in_ok-begin_object.ensures)
    (behind c.in_ok-write_decimal.ensures
    (behind c.in_ok-write_text.ensures
    (behind c.in_ok-write_ops.ensures.value
    (behind c.in_ok-write_flag.ensures
    (behind c.in_ok-write_decimal-2.ensures
    (added c.in_ok-end_object.ensures))))))
