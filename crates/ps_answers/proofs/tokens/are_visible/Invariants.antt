use Rattle.std.proofs.Common.{◌≡◌, drop}
use Rattle.std.specs.List.{list_all}
use Rattle.ps_answers.specs.Tokens as spec
use Rattle.ps_answers.proofs.tokens.are_visible.Given as goal

-- the bytes before this one decide nothing
abbrev pub invariant-bytes : goal.invariant-bytes
invariant-bytes l = list_all spec.is_visible l.bytes ≡ list_all spec.is_visible (drop l.byte-index l.bytes)
