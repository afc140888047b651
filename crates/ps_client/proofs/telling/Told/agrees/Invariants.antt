use Rattle.std.proofs.Common.{◌≡◌, not}
use Rattle.std.specs.List.{list_all}
use Rattle.std.specs.Map.{keys_of}
use Rattle.ps_client_log.specs.Logs.{kept}
use Rattle.ps_client.specs.Tables.{differs, agrees}
use Rattle.ps_client.proofs.telling.Told.agrees.Given as goal

-- those so far agree
abbrev pub invariant-entries : goal.invariant-entries
invariant-entries g l = list_all (λ name. not (differs (kept l.log) l.self name)) (keys_of l.name-iterator) ≡ agrees (kept l.log) l.self
