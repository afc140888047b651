use Rattle.std.proofs.Common.{◌≡◌, true, take}
use Rattle.std.specs.List.{list_all}
use Rattle.ps_client.specs.Tables.{is_told}
use Rattle.ps_client.proofs.telling.Told.are_told.Given as goal

-- all so far are told
abbrev pub invariant-names : goal.invariant-names
invariant-names l = list_all (is_told l.self) (take l.name-index l.names) ≡ true
