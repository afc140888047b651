use Rattle.std.proofs.Common.{◌≡◌, take}
use Rattle.ps_rows.specs.Source.{Key as Object}
use Rattle.ps_client_log.specs.Kept.{shown_in}
use Rattle.ps_client.specs.Listing.{content_at}
use Rattle.ps_client.proofs.showing.indexed.Given as goal

-- the rows so far are found
abbrev pub invariant-rows : goal.invariant-rows
invariant-rows l = (object : Object) → content_at l.index object ≡ shown_in (take l.row-index l.rows) object.0 object.1
