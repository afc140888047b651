use Rattle.std.proofs.Common.{◌-◌, ◌≤◌}
use Rattle.ps_core.specs.Plays.{Play}
use Rattle.ps_store.specs.declared.fixed.Fixed.{Fixed}
use Rattle.ps_core.specs.Feeding.{IsLeft}
use Rattle.ps_core.specs.Scripts.{AreLow}
use Rattle.ps_core.proofs.FedRuns.{Going}
use Rattle.ps_core.proofs.feeding.feed.Given as goal

-- what is left to feed gives what feeding all gives
abbrev pub invariant-transactions : goal.invariant-transactions
invariant-transactions l = record {
  low : AreLow l.left.items;
  within : l.count ≤ l.most;
  going : (fixed : Fixed) (play : Play) → IsLeft fixed play l.fn.store l.fn.left.items → Going fixed play l.most l.count l.store l.left.items;
}

abbrev pub decreases-transactions : goal.decreases-transactions
decreases-transactions l = l.most - l.count
