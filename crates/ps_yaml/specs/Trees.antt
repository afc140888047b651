-- Maps and lists: which node the lines of a document give.
use Rattle.std.specs.Prelude.{ℕ, zero, suc, ◌+◌, List, [], ◌∷◌, ◌++◌, Bool, true, false, ◌==◌, ◌||◌, ◌&&◌, nat_lt, nat_le, length, take, drop, Option, Some, None, Result, Ok, Err, bytes_eq, not, if◌then◌else◌}
use Rattle.std.specs.List.{position_or_len, list_any}
use Rattle.std.specs.Char.{is_ascii_alphabetic, is_ascii_digit}
use Rattle.std.specs.Str.{is_utf8}
use Rattle.ps_data.specs.Chains.{◌>>=◌}
use Rattle.ps_yaml.specs.declared.faults.YamlFault.{YamlFault}
use Rattle.ps_yaml.specs.declared.faults.YamlFault.TheVariants.{BadIndent, BadScalar, DuplicateKey, Unsupported}
use Rattle.ps_yaml.specs.declared.nodes.Node.{Node}
use Rattle.ps_yaml.specs.declared.nodes.Node.TheVariants.{Scalar, Map, List as Sequence}
use Rattle.ps_yaml.specs.declared.nodes.Pair.{Pair}
use Rattle.ps_yaml.specs.Lines.{Line, lines_of, begins, spaces, content, kind_of, from_content}
use Rattle.ps_yaml.specs.Scalars.{bad_scalar, is_empty, is_break, is_line_end, is_tabbed, scalar_at}

-- ---- the first bytes of an entry and of an item

abbrev pub begins_name : List ℕ → Bool
begins_name [] = false
begins_name (b ∷ bytes) = is_ascii_alphabetic b || b == 95

abbrev pub is_in_name : ℕ → Bool
is_in_name b = is_ascii_alphabetic b || is_ascii_digit b || b == 95 || b == 45

abbrev pub ends_name : ℕ → Bool
ends_name b = not (is_in_name b)

-- a NAME begins with a letter or `_`, and goes on with letters, digits, `_` and `-`
unfoldable pub name_len : List ℕ → ℕ
name_len text = if begins_name text then position_or_len ends_name text else 0

-- a NAME, a colon, and then a space or the line's end
unfoldable pub is_entry : List ℕ → Bool
is_entry text =
    let after = drop (name_len text) text in
    nat_lt 0 (name_len text) && begins 58 after && is_break (drop 1 after)

-- a `-`, spaces, and what is neither a comment nor the line's end
unfoldable pub is_item : List ℕ → Bool
is_item text =
    let after = drop (spaces (drop 1 text)) (drop 1 text) in
    begins 45 text && nat_lt 0 (spaces (drop 1 text)) && not (is_empty after) && not (begins 35 after)

-- ---- lists

-- the next line of a map or a list that is open at this indent, and the lines after it; none where it ends
abbrev pub next_in : ℕ → List Line → Result (Option (Line × List Line)) YamlFault
next_in indent [] = Ok None
next_in indent (line ∷ lines) =
    if is_tabbed (kind_of line.text) then Err (BadIndent line.number (spaces line.text + 1))
    else if nat_lt (spaces line.text) indent then Ok None
    else if nat_lt indent (spaces line.text) then Err (BadIndent line.number 1)
    else Ok (Some (line, lines))

-- an item that begins another item or a map
abbrev pub is_nested : List ℕ → Bool
is_nested text = (begins 45 text && begins 32 (drop 1 text)) || is_entry text

-- where an item's scalar begins
abbrev pub item_offset : Line → ℕ
item_offset line = spaces line.text + 1 + spaces (drop 1 (content line))

unfoldable pub item_at : Line → List Line → Result (Node × List Line) YamlFault
item_at line lines =
    if is_nested (drop (item_offset line) line.text) then Err (Unsupported line.number (item_offset line + 1))
    else scalar_at (spaces line.text) line (item_offset line) lines

abbrev pub item_then : (List Node → List Line → Result (List Node × List Line) YamlFault) → Bool → List Node → List Line → Option (Line × List Line) → Result (List Node × List Line) YamlFault
item_then others shared items lines None = Ok (items, lines)
item_then others shared items lines (Some x) =
    if is_item (content x.0) then (do
      item ← item_at x.0 x.1
      others (items ++ item.0 ∷ []) item.1)
    else if shared then Ok (items, lines)
    else bad_scalar x.0 (spaces x.0.text)

-- the items of a list at this indent, which it may share with a map, behind those that are read, and the lines after it;
-- no more items than turns
abbrev pub items_at : ℕ → Bool → ℕ → List Node → List Line → Result (List Node × List Line) YamlFault
items_at zero shared indent items lines = Ok (items, lines)
items_at (suc turns) shared indent items lines = do
  next ← next_in indent (from_content lines)
  item_then (items_at turns shared indent) shared items (from_content lines) next

-- ---- maps

unfoldable pub name_of : Line → List ℕ
name_of line = take (name_len (content line)) (content line)

-- where what follows the colon begins
abbrev pub value_offset : Line → ℕ
value_offset line = spaces line.text + name_len (content line) + 1

-- the node below a NAME that no scalar follows: a deeper map, a list at the same or a deeper indent, or the empty scalar
abbrev pub below : (ℕ → List Line → Result (List Pair × List Line) YamlFault) → ℕ → Line → List Line → Result (Node × List Line) YamlFault
below maps turns line [] = Ok (Scalar [] line.number (value_offset line + 1) true, [])
below maps turns line (next ∷ lines) =
    if is_tabbed (kind_of next.text) then Err (BadIndent next.number (spaces next.text + 1))
    else if is_item (content next) && nat_le (spaces line.text) (spaces next.text) then (do
      items ← items_at turns (spaces line.text == spaces next.text) (spaces next.text) [] (next ∷ lines)
      Ok (Sequence items.0 next.number (spaces next.text + 1), items.1))
    else if nat_lt (spaces line.text) (spaces next.text) then
    (if is_entry (content next) then (do
      pairs ← maps (spaces next.text) (next ∷ lines)
      Ok (Map pairs.0 next.number (spaces next.text + 1), pairs.1))
    else Err (BadIndent next.number 1))
    else Ok (Scalar [] line.number (value_offset line + 1) true, next ∷ lines)

-- the node of an entry, and the lines after it
unfoldable pub value_at : (ℕ → List Line → Result (List Pair × List Line) YamlFault) → ℕ → Line → List Line → Result (Node × List Line) YamlFault
value_at maps turns line lines =
    let after = drop (value_offset line) line.text in
    if is_line_end after then below maps turns line (from_content lines)
    else scalar_at (spaces line.text) line (value_offset line + spaces after) lines

abbrev pub is_named : List ℕ → List Pair → Bool
is_named name pairs = list_any (λ (p : Pair). bytes_eq p.name name) pairs

-- the name of a line that begins the next entry of a map with these pairs
unfoldable pub new_name : List Pair → Line → Result (List ℕ) YamlFault
new_name pairs line =
    if not (is_entry (content line)) then bad_scalar line (spaces line.text)
    else if is_named (name_of line) pairs then Err (DuplicateKey line.number (spaces line.text + 1))
    else Ok (name_of line)

abbrev pub pair_of : List ℕ → Node → Line → Pair
pair_of name node line = record { name = name; node = node; line = line.number; column = spaces line.text + 1 }

abbrev pub pair_then : (List Pair → List Line → Result (List Pair × List Line) YamlFault) → (Line → List Line → Result (Node × List Line) YamlFault) → List Pair → List Line → Option (Line × List Line) → Result (List Pair × List Line) YamlFault
pair_then others value pairs lines None = Ok (pairs, lines)
pair_then others value pairs lines (Some x) = do
  name ← new_name pairs x.0
  node ← value x.0 x.1
  others (pairs ++ pair_of name node.0 x.0 ∷ []) node.1

-- the pairs of a map at this indent behind those that are read, and the lines after it; no more pairs than turns
abbrev pub pairs_at : ℕ → ℕ → List Pair → List Line → Result (List Pair × List Line) YamlFault
pairs_at zero indent pairs lines = Ok (pairs, lines)
pairs_at (suc turns) indent pairs lines = do
  next ← next_in indent (from_content lines)
  pair_then (pairs_at turns indent) (value_at (λ deeper. pairs_at turns deeper []) turns) pairs (from_content lines) next

-- ---- documents

-- the document is a map at indent 0, which is empty where there is no content
abbrev pub root : List Line → Result Node YamlFault
root [] = Ok (Map [] 1 1)
root (line ∷ lines) = do
  pairs ← pairs_at (length (line ∷ lines)) 0 [] (line ∷ lines)
  Ok (Map pairs.0 line.number 1)

unfoldable pub document_of : List ℕ → Result Node YamlFault
document_of bytes = if is_utf8 bytes then root (from_content (lines_of bytes)) else Err (BadScalar 1 1)
