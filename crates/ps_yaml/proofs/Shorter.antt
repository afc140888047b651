-- That reading leaves no more lines than it was given.
use Rattle.std.proofs.Common.{◌≡◌, ℕ, suc, ◌+◌, ◌≤◌, List, [], ◌∷◌, ◌++◌, Bool, true, false, ◌==◌, ◌||◌, ◌&&◌, nat_lt, if◌then◌else◌, length, take, drop, slice_index, Option, Some, None, Result, Ok, Err, subst, arith}
use Rattle.std.specs.List.{position_or_len}
use Rattle.std.proofs.lemmas.List.{length-drop}
use Rattle.ps_data.specs.Chains.{◌>>=◌}
use Rattle.ps_yaml.specs.declared.nodes.Node.{Node}
use Rattle.ps_yaml.specs.declared.faults.YamlFault.{YamlFault}
use Rattle.ps_yaml.specs.declared.scalars.Style.{Style}
use Rattle.ps_yaml.specs.Lines.{Line, kind_of, is_passed, spaces, content, from_content, is_met}
use Rattle.ps_yaml.specs.Scalars.{scalar_at, plain_scalar, continued, is_content, has_colon, single_scalar, single_closed, single_quoted, double_scalar, double_closed, double_quoted, closed, is_line_end, block_scalar, block_styled, block_lines, block_len, block_indent, style_of, trimmed, unescaped, is_left_out, begins_none, plain_part}
use Rattle.ps_yaml.specs.Trees.{item_at, is_nested, item_offset}

pub content_shorter : (lines : List Line) → length (from_content lines) ≤ length lines
content_shorter lines = omega (arith, length-drop (position_or_len is_met lines) lines)

-- a reading of a node and the lines after it
abbrev pub Leaves : {X : Type 0} → List Line → Result (X × List Line) YamlFault → Type 0
Leaves lines (Ok x) = length x.1 ≤ length lines
Leaves lines (Err fault) = Unit {0}

-- what holds of both holds of either
pub on_choice : {A : Type 0} (P : A → Type 0) (b : Bool) (x y : A) → P x → P y → P (if b then x else y)
on_choice P true x y p q = p
on_choice P false x y p q = q

pub bind_leaves : {A X : Type 0} (lines : List Line) (read : Result A YamlFault) (next : A → Result (X × List Line) YamlFault) → ((x : A) → Leaves lines (next x)) → Leaves lines (read >>= next)
bind_leaves lines (Ok x) next each = each x
bind_leaves lines (Err fault) next each = tt

pub bind_keeps : {A X : Type 0} (lines : List Line) (read : Result (A × List Line) YamlFault) (next : A × List Line → Result (X × List Line) YamlFault) → Leaves lines read → ((x : A × List Line) → length x.1 ≤ length lines → Leaves lines (next x)) → Leaves lines (read >>= next)
bind_keeps lines (Ok x) next left each = each x left
bind_keeps lines (Err fault) next left each = tt

pub leaves_ok : {X : Type 0} (lines : List Line) (read : Result (X × List Line) YamlFault) (x : X) (after : List Line) → Leaves lines read → read ≡ Ok (x, after) → length after ≤ length lines
leaves_ok lines (Ok y) x after left e = let same : y ≡ (x, after) = cc in subst (λ (z : _ × List Line). length z.1 ≤ length lines) same left
leaves_ok lines (Err fault) x after left e = cc

continued_shorter : (indent : ℕ) (lines : List Line) → length (continued indent lines).1 ≤ length lines
continued_shorter indent [] = omega arith
continued_shorter indent (line ∷ lines) =
    let rest = continued_shorter indent lines in
    let P : List ℕ × List Line → Type 0 = λ r. length r.1 ≤ suc (length lines) in
    on_choice P (is_passed (kind_of line.text)) (continued indent lines) _ (omega (arith, rest))
    (on_choice P (is_content (kind_of line.text) && nat_lt indent (spaces line.text)) (32 ∷ plain_part (content line) ++ (continued indent lines).0, (continued indent lines).1) ([], line ∷ lines) (omega (arith, rest)) (omega arith))

plain_leaves : (indent : ℕ) (line : Line) (offset : ℕ) (lines : List Line) → Leaves lines (plain_scalar indent line offset lines)
unfolding plain_scalar
plain_leaves indent line offset lines = on_choice (Leaves lines) (has_colon (plain_part (drop offset line.text) ++ (continued indent lines).0)) _ _ tt (continued_shorter indent lines)

closed_leaves : (line : Line) (offset : ℕ) (lines : List Line) (text after : List ℕ) → Leaves lines (closed line offset lines text after)
unfolding closed
closed_leaves line offset lines text after = on_choice (Leaves lines) (is_line_end after) _ _ (omega arith) tt

single_closed_leaves : (line : Line) (offset : ℕ) (lines : List Line) (found : Option (List ℕ × List ℕ)) → Leaves lines (single_closed line offset lines found)
single_closed_leaves line offset lines None = tt
single_closed_leaves line offset lines (Some x) = closed_leaves line offset lines x.0 x.1

double_closed_leaves : (line : Line) (offset : ℕ) (lines : List Line) (found : Option ℕ) → Leaves lines (double_closed line offset lines found)
double_closed_leaves line offset lines None = tt
double_closed_leaves line offset lines (Some n) =
    bind_leaves lines (unescaped line (offset + 1) (take n (drop (offset + 1) line.text))) _ (λ text. closed_leaves line offset lines text (drop (n + 1) (drop (offset + 1) line.text)))

block_lines_leaves : (s : Style) (indent : ℕ) (lines : List Line) (depth : Option ℕ) → Leaves lines (block_lines s indent lines depth)
block_lines_leaves s indent lines None = omega arith
block_lines_leaves s indent lines (Some depth) = bind_leaves lines (block_len indent depth lines) _ (λ n. omega (arith, length-drop n lines))

block_styled_leaves : (indent : ℕ) (line : Line) (offset : ℕ) (lines : List Line) (found : Option Style) → Leaves lines (block_styled indent line offset lines found)
block_styled_leaves indent line offset lines None = tt
block_styled_leaves indent line offset lines (Some s) =
    bind_keeps lines (block_lines s indent lines (block_indent indent lines)) _ (block_lines_leaves s indent lines (block_indent indent lines)) (λ x h. h)

pub scalar_leaves : (indent : ℕ) (line : Line) (offset : ℕ) (lines : List Line) → Leaves lines (scalar_at indent line offset lines)
unfolding scalar_at single_scalar double_scalar block_scalar
scalar_leaves indent line offset lines =
    let first = slice_index line.text offset in
    let P : Result (Node × List Line) YamlFault → Type 0 = Leaves lines in
    on_choice P (first == 39) _ _ (single_closed_leaves line offset lines (single_quoted (drop (offset + 1) line.text)))
    (on_choice P (first == 34) _ _ (double_closed_leaves line offset lines (double_quoted (drop (offset + 1) line.text)))
    (on_choice P (first == 124 || first == 62) _ _ (block_styled_leaves indent line offset lines (style_of (trimmed (drop offset line.text))))
    (on_choice P (is_left_out first) _ _ tt
    (on_choice P (begins_none first) _ _ tt (plain_leaves indent line offset lines)))))

pub item_leaves : (line : Line) (lines : List Line) → Leaves lines (item_at line lines)
unfolding item_at
item_leaves line lines = on_choice (Leaves lines) (is_nested (drop (item_offset line) line.text)) _ _ tt (scalar_leaves (spaces line.text) line (item_offset line) lines)
