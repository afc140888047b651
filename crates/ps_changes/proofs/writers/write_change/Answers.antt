use Rattle.ps_changes.proofs.Written.{change_written, change_back}
use Rattle.ps_changes.proofs.writers.write_change.Goals as goal

pub returns-clause-value : goal.returns-clause-value
returns-clause-value c = change_written c.args.change.now _ _ c.in_ok-json.ensures.value c.in_ok-to_vec.ensures.text

pub returns-clause-read_again : goal.returns-clause-read_again
returns-clause-read_again c =
    change_back c.args.change.now _ _ c.in_ok-json.ensures.value c.in_ok-json.ensures.spelled c.in_ok-to_vec.ensures.utf8 c.in_ok-to_vec.ensures.reads_back
