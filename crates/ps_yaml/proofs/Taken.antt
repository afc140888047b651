-- That what the grammar spells takes lines from the front.
use Rattle.std.proofs.Common.{◌≡◌, ℕ, suc, ◌+◌, ◌≤◌, Bool, List, length, ap, arith}
use Rattle.ps_yaml.specs.declared.nodes.Node.{Node}
use Rattle.ps_yaml.specs.declared.nodes.Pair.{Pair}
use Rattle.ps_yaml.specs.Lines.{Line, spaces, from_content}
use Rattle.ps_yaml.specs.Scalars.{scalar_at}
use Rattle.ps_yaml.specs.Trees.{item_at, value_offset}
use Rattle.ps_yaml.specs.Grammar.{Items, items_end, item, Entries, entries_end, entry, Value, scalar, map, list, empty, after_colon}
use Rattle.ps_yaml.proofs.ScalarLaws.{scalar_only, item_only}
use Rattle.ps_yaml.proofs.Shorter.{content_shorter, leaves_ok, item_leaves, scalar_leaves}

pub items_shorter : {shared : Bool} {indent : ℕ} {before : List Node} {lines : List Line} {all : List Node} {rest : List Line} → Items shared indent before lines all rest → length rest ≤ length lines
items_shorter (items_end before lines ends) = content_shorter lines
items_shorter (item before lines line own node after all rest is at begins flat reads more) =
    let left : length after ≤ length own = leaves_ok own (item_at line own) node after (item_leaves line own) (item_only line own flat reads) in
    let whole : length (from_content lines) ≡ suc (length own) = ap length is in
    omega (arith, items_shorter more, left, whole, content_shorter lines)

mutual
  pub entries_shorter : {indent : ℕ} {before : List Pair} {lines : List Line} {all : List Pair} {rest : List Line} → Entries indent before lines all rest → length rest ≤ length lines
  entries_shorter (entries_end indent before lines ends) = content_shorter lines
  entries_shorter (entry indent before lines line own node after all rest is at begins new value more) =
      let whole : length (from_content lines) ≡ suc (length own) = ap length is in
      omega (arith, entries_shorter more, value_shorter value, whole, content_shorter lines)

  pub value_shorter : {line : Line} {own : List Line} {node : Node} {after : List Line} → Value line own node after → length after ≤ length own
  value_shorter (scalar line own node after end reads) =
      leaves_ok own (scalar_at (spaces line.text) line (value_offset line + spaces (after_colon line)) own) node after (scalar_leaves (spaces line.text) line (value_offset line + spaces (after_colon line)) own)
      (scalar_only (spaces line.text) line (value_offset line + spaces (after_colon line)) own reads)
  value_shorter (map line own first others pairs after end is tab deeper begins more) =
      let whole : length (from_content own) ≡ suc (length others) = ap length is in
      omega (arith, entries_shorter more, whole, content_shorter own)
  value_shorter (list line own first others items after end is tab deeper begins more) =
      let whole : length (from_content own) ≡ suc (length others) = ap length is in
      omega (arith, items_shorter more, whole, content_shorter own)
  value_shorter (empty line own end none) = content_shorter own
