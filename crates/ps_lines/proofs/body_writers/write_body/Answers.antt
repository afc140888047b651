use Rattle.ps_lines.proofs.BodyRounds.{written, body_again}
use Rattle.ps_lines.proofs.RoundTrips.{reads_back}
use Rattle.ps_lines.proofs.body_writers.write_body.Goals as goal

pub returns-clause-value : goal.returns-clause-value
returns-clause-value c = written c.plain_json_has_no_float.ensures c.args.body.now _ _ c.requires c.in_ok-json.ensures c.in_ok-bytes.ensures.text

pub returns-clause-read_again : goal.returns-clause-read_again
returns-clause-read_again c =
    body_again (reads_back c.decimals_read_back.ensures) c.args.body.now _ _ c.requires c.in_ok-json.ensures c.in_ok-bytes.ensures.utf8 c.in_ok-bytes.ensures.reads_back
