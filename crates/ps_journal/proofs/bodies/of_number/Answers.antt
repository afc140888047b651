use Rattle.serde_json.specs.View.{view}
use Rattle.ps_journal.proofs.Written.{body_written, body_back, number_again, number_plain, number_shallow}
use Rattle.ps_journal.proofs.bodies.of_number.Goals as goal

pub returns-clause-value : goal.returns-clause-value
returns-clause-value c =
    body_written _ (view c.in_ok-json.json) _ c.in_ok-json.ensures (number_plain _ _ _ _ (view c.in_ok-json.json) c.in_ok-json.ensures) c.in_ok-to_vec.ensures.text

pub returns-clause-read_again : goal.returns-clause-read_again
returns-clause-read_again c =
    body_back _ (view c.in_ok-json.json) _ (number_again c.decimals_read_back.ensures _ _ _ _ (view c.in_ok-json.json) c.requires.number c.requires.head c.in_ok-json.ensures)
    (number_shallow _ _ _ _ (view c.in_ok-json.json) c.in_ok-json.ensures) c.in_ok-to_vec.ensures.utf8 c.in_ok-to_vec.ensures.reads_back
