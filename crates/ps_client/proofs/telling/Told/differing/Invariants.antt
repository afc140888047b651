use Rattle.std.proofs.Common.{◌≡◌, ◌++◌, map, filter}
use Rattle.std.specs.Map.{keys_of}
use Rattle.ps_client_log.specs.Logs.{kept}
use Rattle.ps_client.specs.Tables.{differs, difference, differing}
use Rattle.ps_client.proofs.telling.Told.differing.Given as goal

-- those that are left come behind
abbrev pub invariant-entries : goal.invariant-entries
invariant-entries g l = l.buckets ++ map (difference (kept l.log) l.self) (filter (differs (kept l.log) l.self) (keys_of l.name-iterator))
    ≡ differing (kept l.log) l.self
