use Rattle.ps_lines.proofs.Tokens.{added, behind}
use Rattle.ps_lines.proofs.writers.write_put.Goals as goal

pub returns-clause-value : goal.returns-clause-value
returns-clause-value c =
    behind (added c.in_ok-begin_object.ensures)
    (behind c.in_ok-write_sum.ensures.value
    (behind c.in_ok-write_text.ensures
    (behind c.in_ok-write_text-2.ensures
    (behind c.in_ok-write_text-3.ensures
    (behind c.in_ok-write_word.ensures
    (behind c.in_ok-write_decimal.ensures
    (behind c.in_ok-write_text-4.ensures
    (added c.in_ok-end_object.ensures))))))))
