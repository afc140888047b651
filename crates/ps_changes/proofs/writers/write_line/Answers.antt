use Rattle.ps_changes.proofs.Written.{line_written, line_back}
use Rattle.ps_changes.proofs.writers.write_line.Goals as goal

pub returns-clause-value : goal.returns-clause-value
returns-clause-value c = line_written c.args.transaction.now _ _ c.in_ok-json.ensures.value c.in_ok-to_vec.ensures.text

pub returns-clause-read_again : goal.returns-clause-read_again
returns-clause-read_again c =
    line_back c.decimals_read_back.ensures c.args.transaction.now _ _ c.in_ok-json.ensures.value c.in_ok-json.ensures.spelled c.in_ok-to_vec.ensures.utf8 c.in_ok-to_vec.ensures.reads_back
