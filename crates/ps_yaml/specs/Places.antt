-- The order of places: what a document names stands on lines that rise.
use Rattle.std.specs.Prelude.{◌≡◌, ◌<◌, ◌≤◌, ℕ, List, [], ◌∷◌, Bool}
use Rattle.ps_yaml.specs.declared.nodes.Node.{Node, out-Node}
use Rattle.ps_yaml.specs.declared.nodes.Node.TheOpen as layers
use Rattle.ps_yaml.specs.declared.nodes.Pair.{Pair}
use Rattle.ps_yaml.specs.Grammar.{Spells}

mutual
  -- a scalar stands on a first line or below it, a map or a list below it; all its parts stand before a line behind
  pub data NodeWithin : ℕ → Node → ℕ → Type 0 where
    scalar_within : (first behind : ℕ) (node : Node) (text : List ℕ) (line column : ℕ) (plain : Bool)
        → out-Node node ≡ layers.Scalar text line column plain → first ≤ line → line < behind → NodeWithin first node behind
    map_within : (first behind : ℕ) (node : Node) (pairs : List Pair) (line column : ℕ)
        → out-Node node ≡ layers.Map pairs line column → first < line → PairsWithin line pairs behind → NodeWithin first node behind
    list_within : (first behind : ℕ) (node : Node) (items : List Node) (line column : ℕ)
        → out-Node node ≡ layers.List items line column → first < line → ItemsWithin line items behind → NodeWithin first node behind

  -- each name is followed by its node, and the next pair stands below both
  pub data PairsWithin : ℕ → List Pair → ℕ → Type 0 where
    no_pairs : (first behind : ℕ) → first ≤ behind → PairsWithin first [] behind
    next_pair : (first next behind : ℕ) (pair : Pair) (pairs : List Pair)
        → first ≤ pair.line → NodeWithin pair.line pair.node next → PairsWithin next pairs behind → PairsWithin first (pair ∷ pairs) behind

  -- each item stands below the one before it
  pub data ItemsWithin : ℕ → List Node → ℕ → Type 0 where
    no_items : (first behind : ℕ) → first ≤ behind → ItemsWithin first [] behind
    next_item : (first next behind : ℕ) (node : Node) (nodes : List Node)
        → NodeWithin first node next → ItemsWithin next nodes behind → ItemsWithin first (node ∷ nodes) behind

-- a document's names and nodes stand in its order, on lines from 1 on
pub record InOrder (node : Node) : Type 0 where
  pub behind : ℕ
  pub within : NodeWithin 0 node behind

abbrev pub PlacesRise : Type 0
PlacesRise = (bytes : List ℕ) (node : Node) → Spells bytes node → InOrder node
