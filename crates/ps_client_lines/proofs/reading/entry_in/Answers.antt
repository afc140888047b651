use Rattle.ps_client_lines.proofs.Listing.{entry_joined}
use Rattle.ps_client_lines.proofs.reading.entry_in.Goals as goal

pub returns-clause-row : goal.returns-clause-row
returns-clause-row c =
    entry_joined c.args.row.now c.split_at-parts.result.0.now c.split_at-parts.result.1.now c.in_ok-bucket.bucket c.in_ok-bucket.key c.in_ok-held.held
    c.split_at-parts.ensures.front c.split_at-parts.ensures.back c.in_ok-bucket.ensures.columns c.in_ok-held.ensures.key c.in_ok-held.ensures.columns
