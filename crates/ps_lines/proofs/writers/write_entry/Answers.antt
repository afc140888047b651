use Rattle.ps_lines.proofs.Tokens.{added, behind}
use Rattle.ps_lines.specs.Writing.{entry_json}
use Rattle.ps_lines.proofs.writers.write_entry.Goals as goal

pub returns-clause-value : goal.returns-clause-value
unfolding entry_json
returns-clause-value c =
    behind (added c.in_ok-begin_object.ensures)
    (behind c.in_ok-write_text.ensures
    (behind c.in_ok-write_sum.ensures.value
    (behind c.in_ok-write_number.ensures.value
    (behind c.in_ok-write_priority.ensures
    (added c.in_ok-end_object.ensures)))))
