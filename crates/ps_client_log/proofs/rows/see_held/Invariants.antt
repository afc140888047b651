use Rattle.std.proofs.Common.{◌≡◌}
use Rattle.ps_rows.specs.Source.{Key as Object}
use Rattle.ps_client_log.specs.Lending.{noted}
use Rattle.ps_client_log.specs.Seeing.{copies_in, all_seen}
use Rattle.ps_client_log.proofs.rows.see_held.Given as goal

-- with the copies that are left, what is noted becomes what it does with all
abbrev pub invariant-copies : goal.invariant-copies
invariant-copies l = (object : Object)
    → all_seen object (noted l.rows object) (copies_in l.bucket l.key-iterator) ≡ all_seen object (noted l.initial.rows object) (copies_in l.bucket l.held.entries)
