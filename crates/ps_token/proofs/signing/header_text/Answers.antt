use Rattle.std.specs.Prelude.{string_bytes}
use Rattle.std.proofs.lemmas.Str.{IsUtf8-string_bytes}
use Rattle.serde_json.specs.View.{view}
use Rattle.ps_token.proofs.Headers.{header_written, header_back}
use Rattle.ps_token.proofs.signing.header_text.Goals as goal

pub returns-clause-text : goal.returns-clause-text
returns-clause-text c = header_written c.args.kid.now (view c.in_ok-header.header) (string_bytes c.in_ok-text.text) c.in_ok-header.ensures c.in_ok-text.ensures.text

pub returns-clause-read_again : goal.returns-clause-read_again
returns-clause-read_again c =
    header_back c.args.kid.now (view c.in_ok-header.header) (string_bytes c.in_ok-text.text) c.in_ok-header.ensures (IsUtf8-string_bytes c.in_ok-text.text) c.in_ok-text.ensures.reads_back
