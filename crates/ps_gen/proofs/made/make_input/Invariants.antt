use Rattle.std.proofs.Common.{◌≡◌, ◌+◌, ◌-◌, ◌≤◌, ◌++◌}
use Rattle.ps_gen.specs.Made.{made_from, made_input}
use Rattle.ps_gen.proofs.made.make_input.Given as goal

-- what is made and what is left to make are the whole
abbrev pub invariant-positions : goal.invariant-positions
invariant-positions l = (l.done ≤ l.count) × (l.transactions ++ made_from (l.done + 1) (l.count - l.done) ≡ made_input l.count)

abbrev pub decreases-positions : goal.decreases-positions
decreases-positions l = l.count - l.done
