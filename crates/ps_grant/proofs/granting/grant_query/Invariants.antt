use Rattle.std.proofs.Common.{◌≡◌, ◌++◌, filter_map}
use Rattle.ps_granted.specs.Grants.{grant_of}
use Rattle.ps_grant.specs.Mapped.{kept_rows}
use Rattle.ps_grant.proofs.KeptLaws.{held}
use Rattle.ps_grant.proofs.granting.grant_query.Given as goal

-- the copies so far, and then those of the rows that are left
abbrev pub invariant-rows : goal.invariant-rows
invariant-rows l =
    l.copies ++ filter_map (grant_of l.asker l.names l.vectors l.planned) (held l.key-iterator)
    ≡ l.initial.copies ++ filter_map (grant_of l.asker l.names l.vectors l.planned) (kept_rows l.rows)
