-- One turn of the loops over the lines of a list and of a map, and their end.
use Rattle.std.proofs.Common.{◌≡◌, ℕ, zero, suc, ◌-◌, ◌<◌, ◌≤◌, List, [], Bool, Ok, refl, sym, ap, arith}
use Rattle.ps_data.specs.Chains.{◌>>=◌}
use Rattle.ps_yaml.specs.declared.nodes.Node.{Node}
use Rattle.ps_yaml.specs.declared.nodes.Pair.{Pair}
use Rattle.ps_yaml.specs.Lines.{Line, from_content}
use Rattle.ps_yaml.specs.Trees.{next_in, item_then, items_at, pair_then, pairs_at, value_at}

one_less : (n : ℕ) → suc n - 1 ≡ n
one_less n = omega arith

pub items_turn : (turns : ℕ) (shared : Bool) (indent : ℕ) (items : List Node) (lines : List Line) → 0 < turns → items_at turns shared indent items lines ≡ (next_in indent (from_content lines) >>= item_then (items_at (turns - 1) shared indent) shared items (from_content lines))
items_turn zero shared indent items lines h = absurd (omega arith)
items_turn (suc turns) shared indent items lines h = ap (λ (n : ℕ). next_in indent (from_content lines) >>= item_then (items_at n shared indent) shared items (from_content lines)) (sym (one_less turns))

pub items_stop : (turns : ℕ) (shared : Bool) (indent : ℕ) (items : List Node) (lines : List Line) → turns ≤ 0 → items_at turns shared indent items lines ≡ Ok (items, lines)
items_stop zero shared indent items lines h = refl
items_stop (suc turns) shared indent items lines h = absurd (omega arith)

pub pairs_turn : (turns indent : ℕ) (pairs : List Pair) (lines : List Line) → 0 < turns → pairs_at turns indent pairs lines ≡ (next_in indent (from_content lines) >>= pair_then (pairs_at (turns - 1) indent) (value_at (λ deeper. pairs_at (turns - 1) deeper []) (turns - 1)) pairs (from_content lines))
pairs_turn zero indent pairs lines h = absurd (omega arith)
pairs_turn (suc turns) indent pairs lines h = ap (λ (n : ℕ). next_in indent (from_content lines) >>= pair_then (pairs_at n indent) (value_at (λ deeper. pairs_at n deeper []) n) pairs (from_content lines)) (sym (one_less turns))

pub pairs_stop : (turns indent : ℕ) (pairs : List Pair) (lines : List Line) → turns ≤ 0 → pairs_at turns indent pairs lines ≡ Ok (pairs, lines)
pairs_stop zero indent pairs lines h = refl
pairs_stop (suc turns) indent pairs lines h = absurd (omega arith)
