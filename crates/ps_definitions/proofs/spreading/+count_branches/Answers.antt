use Rattle.std.proofs.Common.{rules, ◌≡◌, true, arith}
use Rattle.ps_definitions.specs.Laws.{is_leaf}
use Rattle.ps_definitions.proofs.Counts.{counted_leaf}
use Rattle.ps_definitions.proofs.spreading.+count_branches.Goals as goal

pub returns-in_default : goal.returns-in_default
unfolding is_leaf
returns-in_default t c = let leaf : is_leaf c.args.expr.now ≡ true = search rules in record { value = counted_leaf c.args.expr.now leaf; some = omega arith }
