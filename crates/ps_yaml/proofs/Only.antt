-- What is spelled so is read.
use Rattle.std.proofs.Common.{◌≡◌, ℕ, zero, suc, ◌+◌, ◌≤◌, List, [], ◌∷◌, Bool, true, false, ◌==◌, ◌&&◌, not, nat_lt, nat_le, length, drop, Some, None, Result, Ok, refl, sym, ap, subst, ◌∙◌, arith}
use Rattle.std.proofs.lemmas.Bool.Decides.{nat_tests}
use Rattle.std.specs.Str.{is_utf8}
use Rattle.ps_data.specs.Chains.{◌>>=◌}
use Rattle.ps_yaml.specs.declared.nodes.Node.{Node}
use Rattle.ps_yaml.specs.declared.nodes.Node.TheVariants.{Scalar}
use Rattle.ps_yaml.specs.declared.nodes.Pair.{Pair}
use Rattle.ps_yaml.specs.declared.faults.YamlFault.{YamlFault}
use Rattle.ps_yaml.specs.Lines.{Line, kind_of, spaces, content, from_content, begins}
use Rattle.ps_yaml.specs.Scalars.{is_tabbed, is_line_end, is_empty, is_break}
use Rattle.ps_yaml.specs.Trees.{next_in, item_at, item_then, items_at, is_item, is_entry, name_len, begins_name, new_name, name_of, is_named, pairs_at, value_at, value_offset, below, root, document_of}
use Rattle.ps_yaml.specs.Grammar.{StandsAt, Ends, ListEnds, HasNoBlock, Items, items_end, item, Entries, entries_end, entry, Value, scalar, map, list, empty, after_colon, IsDocument, Spells}
use Rattle.ps_yaml.specs.Grammar as grammar
use Rattle.ps_yaml.proofs.Binds.{if_true, if_false, bind_at}
use Rattle.ps_yaml.proofs.ScalarLaws.{scalar_only, item_only}
use Rattle.ps_yaml.proofs.Shorter.{content_shorter, leaves_ok, item_leaves}
use Rattle.ps_yaml.proofs.Taken.{value_shorter}

next_at : (indent : ℕ) (line : Line) (own : List Line) → StandsAt indent line → next_in indent (line ∷ own) ≡ Ok (Some (line, own))
next_at indent line own at = grind (arith, nat_tests)

next_ends : (indent : ℕ) (lines : List Line) → Ends indent lines → next_in indent lines ≡ Ok None
next_ends indent [] h = refl
next_ends indent (line ∷ lines) h = grind (arith, nat_tests)

shared_line : (others : List Node → List Line → Result (List Node × List Line) YamlFault) (indent : ℕ) (before : List Node) (line : Line) (own : List Line) (less : Bool) → nat_lt (spaces line.text) indent ≡ less
    → ListEnds true indent (line ∷ own) → (next_in indent (line ∷ own) >>= item_then others true before (line ∷ own)) ≡ Ok (before, line ∷ own)
shared_line others indent before line own true l h = bind_at (next_in indent (line ∷ own)) _ None (next_ends indent (line ∷ own) (h.0, grind (arith, nat_tests, l)))
shared_line others indent before line own false l h =
    let at : spaces line.text ≡ indent = grind (arith, nat_tests, l, h.1) in
    bind_at (next_in indent (line ∷ own)) _ (Some (line, own)) (next_at indent line own (h.0, at)) ∙ if_false (is_item (content line)) _ _ (h.2 at)

list_closes : (others : List Node → List Line → Result (List Node × List Line) YamlFault) (shared : Bool) (indent : ℕ) (before : List Node) (lines : List Line) → ListEnds shared indent lines
    → (next_in indent lines >>= item_then others shared before lines) ≡ Ok (before, lines)
list_closes others true indent before [] h = refl
list_closes others true indent before (line ∷ own) h = shared_line others indent before line own (nat_lt (spaces line.text) indent) refl h
list_closes others false indent before lines h = bind_at (next_in indent lines) _ None (next_ends indent lines h)

items_close : (turns : ℕ) (shared : Bool) (indent : ℕ) (before : List Node) (lines : List Line) → length lines ≤ turns → ListEnds shared indent (from_content lines) → items_at turns shared indent before lines ≡ Ok (before, from_content lines)
items_close zero shared indent before [] short h = refl
items_close zero shared indent before (line ∷ lines) short h = absurd (omega arith)
items_close (suc turns) shared indent before lines short h = list_closes (items_at turns shared indent) shared indent before (from_content lines) h

pub only_items : {shared : Bool} {indent : ℕ} {before : List Node} {lines : List Line} {all : List Node} {rest : List Line} → Items shared indent before lines all rest → (turns : ℕ) → length lines ≤ turns → items_at turns shared indent before lines ≡ Ok (all, rest)
only_items {shared = shared} {indent = indent} (items_end before lines ends) turns short = items_close turns shared indent before lines short ends
only_items (item before lines line own node after all rest is at begins flat reads more) zero short =
    let whole : length (from_content lines) ≡ suc (length own) = ap length is in absurd (omega (arith, whole, content_shorter lines))
only_items {shared = shared} {indent = indent} (item before lines line own node after all rest is at begins flat reads more) (suc turns) short =
    let whole : length (from_content lines) ≡ suc (length own) = ap length is in
    let left : length after ≤ length own = leaves_ok own (item_at line own) node after (item_leaves line own) (item_only line own flat reads) in
    bind_at (next_in indent (from_content lines)) _ (Some (line, own)) (ap (next_in indent) is ∙ next_at indent line own at)
    ∙ if_true (is_item (content line)) _ _ begins
    ∙ bind_at (item_at line own) _ (node, after) (item_only line own flat reads)
    ∙ only_items more turns (omega (arith, whole, left, content_shorter lines))

-- no text begins both an entry and an item
not_item : (b : ℕ) (bytes : List ℕ) (dash : Bool) → (b == 45) ≡ dash → is_entry (b ∷ bytes) ≡ true → is_item (b ∷ bytes) ≡ false
unfolding is_item is_entry name_len
not_item b bytes true d h =
    let is : b ≡ 45 = grind (arith, nat_tests) in
    let no : begins_name (b ∷ bytes) ≡ false = ap (λ (x : ℕ). begins_name (x ∷ bytes)) is in
    let none : name_len (b ∷ bytes) ≡ 0 = if_false (begins_name (b ∷ bytes)) _ _ no in
    absurd (let z : false ≡ true = sym (ap (λ (n : ℕ). nat_lt 0 n && begins 58 (drop n (b ∷ bytes)) && is_break (drop 1 (drop n (b ∷ bytes)))) none) ∙ h in cc)
not_item b bytes false d h = ap (λ (v : Bool). v && nat_lt 0 (spaces bytes) && not (is_empty (drop (spaces bytes) bytes)) && not (begins 35 (drop (spaces bytes) bytes))) d

entry_no_item : (text : List ℕ) → is_entry text ≡ true → is_item text ≡ false
unfolding is_item
entry_no_item [] h = refl
entry_no_item (b ∷ bytes) h = not_item b bytes (b == 45) refl h

pairs_close : (turns indent : ℕ) (before : List Pair) (lines : List Line) → length lines ≤ turns → Ends indent (from_content lines) → pairs_at turns indent before lines ≡ Ok (before, from_content lines)
pairs_close zero indent before [] short h = refl
pairs_close zero indent before (line ∷ lines) short h = absurd (omega arith)
pairs_close (suc turns) indent before lines short h = bind_at (next_in indent (from_content lines)) _ None (next_ends indent (from_content lines) h)

new_is : (before : List Pair) (line : Line) → is_entry (content line) ≡ true → is_named (name_of line) before ≡ false → new_name before line ≡ Ok (name_of line)
unfolding new_name
new_is before line e n = if_false (not (is_entry (content line))) _ _ (ap not e) ∙ if_false (is_named (name_of line) before) _ _ n

abbrev maps : ℕ → ℕ → List Line → Result (List Pair × List Line) YamlFault
maps turns = λ deeper. pairs_at turns deeper []

first_false : (a b : Bool) → a ≡ false → (a && b) ≡ false
first_false a b h = grind arith

both_true : (a b : Bool) → a ≡ true → b ≡ true → (a && b) ≡ true
both_true a b h k = grind arith

no_item_there : (line next : Line) (less : Bool) → nat_le (spaces line.text) (spaces next.text) ≡ less → spaces next.text ≤ spaces line.text → (spaces next.text ≡ spaces line.text → is_item (content next) ≡ false)
    → (is_item (content next) && nat_le (spaces line.text) (spaces next.text)) ≡ false
no_item_there line next true l below none = first_false (is_item (content next)) _ (none (grind (arith, nat_tests)))
no_item_there line next false l below none = grind arith

below_none : (turns : ℕ) (line : Line) (lines : List Line) → HasNoBlock (spaces line.text) lines → below (maps turns) turns line lines ≡ Ok (Scalar [] line.number (value_offset line + 1) true, lines)
below_none turns line [] h = refl
below_none turns line (next ∷ others) h =
    if_false (is_tabbed (kind_of next.text)) _ _ h.0
    ∙ if_false (is_item (content next) && nat_le (spaces line.text) (spaces next.text)) _ _ (no_item_there line next (nat_le (spaces line.text) (spaces next.text)) refl h.1 h.2)
    ∙ if_false (nat_lt (spaces line.text) (spaces next.text)) _ _ (grind (arith, nat_tests, h.1))

mutual
  unfolding value_at

  pub only_entries : {indent : ℕ} {before : List Pair} {lines : List Line} {all : List Pair} {rest : List Line} → Entries indent before lines all rest → (turns : ℕ) → length lines ≤ turns → pairs_at turns indent before lines ≡ Ok (all, rest)
  only_entries (entries_end indent before lines ends) turns short = pairs_close turns indent before lines short ends
  only_entries (entry indent before lines line own node after all rest is at begins new value more) zero short =
      let whole : length (from_content lines) ≡ suc (length own) = ap length is in absurd (omega (arith, whole, content_shorter lines))
  only_entries (entry indent before lines line own node after all rest is at begins new value more) (suc turns) short =
      let whole : length (from_content lines) ≡ suc (length own) = ap length is in
      let own_short : length own ≤ turns = omega (arith, whole, content_shorter lines) in
      bind_at (next_in indent (from_content lines)) _ (Some (line, own)) (ap (next_in indent) is ∙ next_at indent line own at)
      ∙ bind_at (new_name before line) _ (name_of line) (new_is before line begins new)
      ∙ bind_at (value_at (maps turns) turns line own) _ (node, after) (only_value value turns own_short)
      ∙ only_entries more turns (omega (arith, own_short, value_shorter value))

  pub only_value : {line : Line} {own : List Line} {node : Node} {after : List Line} → Value line own node after → (turns : ℕ) → length own ≤ turns → value_at (maps turns) turns line own ≡ Ok (node, after)
  only_value (scalar line own node after end reads) turns short = if_false (is_line_end (after_colon line)) _ _ end ∙ scalar_only (spaces line.text) line (value_offset line + spaces (after_colon line)) own reads
  only_value (map line own first others pairs after end is tab deeper begins more) turns short =
      let all : length (first ∷ others) ≤ turns = subst (λ (ls : List Line). length ls ≤ turns) is (omega (arith, short, content_shorter own)) in
      if_true (is_line_end (after_colon line)) _ _ end
      ∙ ap (below (maps turns) turns line) is
      ∙ if_false (is_tabbed (kind_of first.text)) _ _ tab
      ∙ if_false (is_item (content first) && nat_le (spaces line.text) (spaces first.text)) _ _ (first_false (is_item (content first)) _ (entry_no_item (content first) begins))
      ∙ if_true (nat_lt (spaces line.text) (spaces first.text)) _ _ (grind (arith, nat_tests, deeper))
      ∙ if_true (is_entry (content first)) _ _ begins
      ∙ bind_at (maps turns (spaces first.text) (first ∷ others)) _ (pairs, after) (only_entries more turns all)
  only_value (list line own first others items after end is tab deeper begins more) turns short =
      let all : length (first ∷ others) ≤ turns = subst (λ (ls : List Line). length ls ≤ turns) is (omega (arith, short, content_shorter own)) in
      if_true (is_line_end (after_colon line)) _ _ end
      ∙ ap (below (maps turns) turns line) is
      ∙ if_false (is_tabbed (kind_of first.text)) _ _ tab
      ∙ if_true (is_item (content first) && nat_le (spaces line.text) (spaces first.text)) _ _ (both_true (is_item (content first)) _ begins (grind (arith, nat_tests, deeper)))
      ∙ bind_at (items_at turns (spaces line.text == spaces first.text) (spaces first.text) [] (first ∷ others)) _ (items, after) (only_items more turns all)
  only_value (empty line own end none) turns short = if_true (is_line_end (after_colon line)) _ _ end ∙ below_none turns line (from_content own) none

root_read : {lines : List Line} {node : Node} → IsDocument lines node → root (from_content lines) ≡ Ok node
root_read (grammar.nothing lines is) = ap root is
root_read (grammar.root lines first others pairs is spelled) =
    ap root is ∙ bind_at (pairs_at (length (first ∷ others)) 0 [] (first ∷ others)) _ (pairs, []) (only_entries spelled (length (first ∷ others)) (omega arith))

pub only_document : (bytes : List ℕ) (node : Node) → Spells bytes node → document_of bytes ≡ Ok node
unfolding document_of
only_document bytes node h = if_true (is_utf8 bytes) _ _ h.0 ∙ root_read h.1
