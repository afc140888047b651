use Rattle.std.proofs.Common.{◌≤◌, arith}
use Rattle.serde_json.specs.Data.{depth}
use Rattle.serde_json.specs.Read.{max_depth}
use Rattle.serde_json.specs.View.{view}
use Rattle.ps_journal.proofs.Written.{body_written, body_back}
use Rattle.ps_journal.proofs.bodies.of_upload.Goals as goal

pub returns-clause-value : goal.returns-clause-value
returns-clause-value c = body_written _ (view c.in_ok-json.json) _ c.in_ok-json.ensures.value c.in_ok-json.ensures.plain c.in_ok-to_vec.ensures.text

pub returns-clause-read_again : goal.returns-clause-read_again
returns-clause-read_again c =
    let shallow : depth (view c.in_ok-json.json) ≤ max_depth = omega (arith, c.in_ok-json.ensures.shallow) in
    body_back _ (view c.in_ok-json.json) _ c.in_ok-json.ensures.read_again shallow c.in_ok-to_vec.ensures.utf8 c.in_ok-to_vec.ensures.reads_back
