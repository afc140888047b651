-- Scalars: what a text means that begins at an offset of a line, and which lines it takes.
use Rattle.std.specs.Prelude.{ℕ, zero, suc, ◌+◌, ◌-◌, List, [], ◌∷◌, ◌++◌, Bool, true, false, ◌==◌, ◌||◌, ◌&&◌, nat_lt, nat_le, length, take, drop, slice_index, Option, Some, None, option_map, Result, Ok, Err, bytes_eq, codes, if◌then◌else◌}
use Rattle.std.specs.List.{suffix_len, flat_map}
use Rattle.ps_data.specs.Chains.{◌>>=◌}
use Rattle.ps_yaml.specs.declared.lines.Kind.{Kind}
use Rattle.ps_yaml.specs.declared.lines.Kind.TheVariants.{Blank, Comment, Tabbed, Content}
use Rattle.ps_yaml.specs.declared.scalars.Style.{Style}
use Rattle.ps_yaml.specs.declared.faults.YamlFault.{YamlFault}
use Rattle.ps_yaml.specs.declared.faults.YamlFault.TheVariants.{BadIndent, BadScalar, Unsupported}
use Rattle.ps_yaml.specs.declared.nodes.Node.{Node}
use Rattle.ps_yaml.specs.declared.nodes.Node.TheVariants.{Scalar}
use Rattle.ps_yaml.specs.Lines.{Line, begins, is_space, is_space_or_tab, spaces, content, kind_of, is_passed}

-- what stands at an offset of a line is no scalar
abbrev pub bad_scalar : {X : Type 0} → Line → ℕ → Result X YamlFault
bad_scalar line offset = Err (BadScalar line.number (offset + 1))

abbrev pub is_empty : List ℕ → Bool
is_empty text = length text == 0

-- the end, or a space
abbrev pub is_break : List ℕ → Bool
is_break text = is_empty text || begins 32 text

-- spaces, or spaces and a comment, count as the line's end
unfoldable pub is_line_end : List ℕ → Bool
is_line_end text = is_empty (drop (spaces text) text) || (nat_lt 0 (spaces text) && begins 35 (drop (spaces text) text))

-- ---- plain scalars

-- what stands before the first space that a `#` follows
abbrev pub before_comment : List ℕ → List ℕ
before_comment [] = []
before_comment (b ∷ bytes) = if b == 32 && begins 35 bytes then [] else b ∷ before_comment bytes

-- the bytes without the spaces at their end
unfoldable pub trimmed : List ℕ → List ℕ
trimmed text = take (length text - suffix_len is_space text) text

-- what a line gives to a plain scalar
unfoldable pub plain_part : List ℕ → List ℕ
plain_part text = trimmed (before_comment text)

-- whether a colon stands before a space or at the end
abbrev pub has_colon : List ℕ → Bool
has_colon [] = false
has_colon (b ∷ bytes) = (b == 58 && is_break bytes) || has_colon bytes

abbrev pub is_content : Kind → Bool
is_content Blank = false
is_content Comment = false
is_content Tabbed = false
is_content Content = true

-- the deeper lines that continue a plain scalar, each joined by a space, and the lines after them
abbrev pub continued : ℕ → List Line → List ℕ × List Line
continued indent [] = ([], [])
continued indent (line ∷ lines) =
    if is_passed (kind_of line.text) then continued indent lines
    else if is_content (kind_of line.text) && nat_lt indent (spaces line.text)
    then (32 ∷ plain_part (content line) ++ (continued indent lines).0, (continued indent lines).1)
    else ([], line ∷ lines)

unfoldable pub plain_scalar : ℕ → Line → ℕ → List Line → Result (Node × List Line) YamlFault
plain_scalar indent line offset lines =
    let text = plain_part (drop offset line.text) ++ (continued indent lines).0 in
    if has_colon text then bad_scalar line offset
    else Ok (Scalar text line.number (offset + 1) true, (continued indent lines).1)

-- ---- quoted scalars, each on one line

abbrev pub with_front : List ℕ → Option (List ℕ × List ℕ) → Option (List ℕ × List ℕ)
with_front front found = option_map (λ (x : List ℕ × List ℕ). (front ++ x.0, x.1)) found

-- from behind the opening quote: the text, in which two quotes stand for one, and what follows the closing quote
abbrev mutual
  pub single_quoted : List ℕ → Option (List ℕ × List ℕ)
  single_quoted [] = None
  single_quoted (b ∷ bytes) = if b == 39 then behind_quote bytes else with_front (b ∷ []) (single_quoted bytes)

  pub behind_quote : List ℕ → Option (List ℕ × List ℕ)
  behind_quote [] = Some ([], [])
  behind_quote (b ∷ bytes) = if b == 39 then with_front (39 ∷ []) (single_quoted bytes) else Some ([], b ∷ bytes)

-- from behind the opening quote: the number of bytes before the closing quote, which no backslash stands before
abbrev mutual
  pub double_quoted : List ℕ → Option ℕ
  double_quoted [] = None
  double_quoted (b ∷ bytes) =
      if b == 34 then Some 0
      else if b == 92 then behind_backslash bytes
      else option_map (λ n. n + 1) (double_quoted bytes)

  pub behind_backslash : List ℕ → Option ℕ
  behind_backslash [] = None
  behind_backslash (b ∷ bytes) = option_map (λ n. n + 2) (double_quoted bytes)

-- what the byte behind a backslash stands for
abbrev pub escaped : ℕ → Option ℕ
escaped b =
    if b == 34 || b == 92 || b == 47 then Some b
    else if b == 110 then Some 10
    else if b == 116 then Some 9
    else None

abbrev pub onto : ℕ → Result (List ℕ) YamlFault → Result (List ℕ) YamlFault
onto b read = read >>= (λ bytes. Ok (b ∷ bytes))

abbrev pub or_bad : {X : Type 0} → Line → ℕ → Option X → (X → Result (List ℕ) YamlFault) → Result (List ℕ) YamlFault
or_bad line offset None read = bad_scalar line offset
or_bad line offset (Some x) read = read x

-- the text of what stands between double quotes, from an offset on
abbrev mutual
  pub unescaped : Line → ℕ → List ℕ → Result (List ℕ) YamlFault
  unescaped line offset [] = Ok []
  unescaped line offset (b ∷ bytes) =
      if b == 92 then after_backslash line offset bytes else onto b (unescaped line (offset + 1) bytes)

  pub after_backslash : Line → ℕ → List ℕ → Result (List ℕ) YamlFault
  after_backslash line offset [] = bad_scalar line offset
  after_backslash line offset (b ∷ bytes) =
      or_bad line offset (escaped b) (λ c. onto c (unescaped line (offset + 2) bytes))

-- the node of a quoted text that nothing but the line's end follows
unfoldable pub closed : Line → ℕ → List Line → List ℕ → List ℕ → Result (Node × List Line) YamlFault
closed line offset lines text after =
    if is_line_end after then Ok (Scalar text line.number (offset + 1) false, lines)
    else bad_scalar line (length line.text - length (drop (spaces after) after))

abbrev pub single_closed : Line → ℕ → List Line → Option (List ℕ × List ℕ) → Result (Node × List Line) YamlFault
single_closed line offset lines None = bad_scalar line offset
single_closed line offset lines (Some x) = closed line offset lines x.0 x.1

unfoldable pub single_scalar : Line → ℕ → List Line → Result (Node × List Line) YamlFault
single_scalar line offset lines = single_closed line offset lines (single_quoted (drop (offset + 1) line.text))

abbrev pub double_closed : Line → ℕ → List Line → Option ℕ → Result (Node × List Line) YamlFault
double_closed line offset lines None = bad_scalar line offset
double_closed line offset lines (Some n) = do
  text ← unescaped line (offset + 1) (take n (drop (offset + 1) line.text))
  closed line offset lines text (drop (n + 1) (drop (offset + 1) line.text))

unfoldable pub double_scalar : Line → ℕ → List Line → Result (Node × List Line) YamlFault
double_scalar line offset lines = double_closed line offset lines (double_quoted (drop (offset + 1) line.text))

-- ---- block scalars

abbrev pub style : ℕ → Bool → Option Style
style joint ends = Some (record { joint = joint; ends = ends })

-- how a mark joins the block's lines, and whether a line feed ends them
abbrev pub style_of : List ℕ → Option Style
style_of mark =
    if bytes_eq mark (codes "|") then style 10 true
    else if bytes_eq mark (codes "|-") then style 10 false
    else if bytes_eq mark (codes ">") then style 32 true
    else if bytes_eq mark (codes ">-") then style 32 false
    else None

abbrev pub is_blank : Kind → Bool
is_blank Blank = true
is_blank Comment = false
is_blank Tabbed = false
is_blank Content = false

abbrev pub is_tabbed : Kind → Bool
is_tabbed Blank = false
is_tabbed Comment = false
is_tabbed Tabbed = true
is_tabbed Content = false

-- the first line that is not blank sets the block's indent, where it is deeper than the line of the mark
abbrev pub block_indent : ℕ → List Line → Option ℕ
block_indent indent [] = None
block_indent indent (line ∷ lines) =
    if is_blank (kind_of line.text) then block_indent indent lines
    else if is_tabbed (kind_of line.text) then None
    else if nat_lt indent (spaces line.text) then Some (spaces line.text)
    else None

abbrev pub count_blank : ℕ → ℕ
count_blank more = if more == 0 then 0 else more + 1

-- the number of lines of a block, the blank ones at its end left out
abbrev pub block_len : ℕ → ℕ → List Line → Result ℕ YamlFault
block_len indent depth [] = Ok 0
block_len indent depth (line ∷ lines) =
    if is_blank (kind_of line.text) then block_len indent depth lines >>= (λ more. Ok (count_blank more))
    else if nat_le depth (spaces line.text) then block_len indent depth lines >>= (λ more. Ok (more + 1))
    else if is_tabbed (kind_of line.text) then Ok 0
    else if nat_lt indent (spaces line.text) then Err (BadIndent line.number 1)
    else Ok 0

-- a line without the block's indent: at most so many spaces and tabs at its front are left out
abbrev pub unindented : ℕ → List ℕ → List ℕ
unindented zero text = text
unindented (suc depth) [] = []
unindented (suc depth) (b ∷ text) = if is_space_or_tab b then unindented depth text else b ∷ text

-- the lines without the block's indent, joined
abbrev pub joined : ℕ → ℕ → List Line → List ℕ
joined joint depth [] = []
joined joint depth (line ∷ lines) = unindented depth line.text ++ flat_map (λ (l : Line). joint ∷ unindented depth l.text) lines

abbrev pub ended : Bool → List ℕ → List ℕ
ended ends text = if ends then text ++ 10 ∷ [] else text

abbrev pub block_lines : Style → ℕ → List Line → Option ℕ → Result (List ℕ × List Line) YamlFault
block_lines s indent lines None = Ok (ended s.ends [], lines)
block_lines s indent lines (Some depth) = do
  n ← block_len indent depth lines
  Ok (ended s.ends (joined s.joint depth (take n lines)), drop n lines)

abbrev pub block_styled : ℕ → Line → ℕ → List Line → Option Style → Result (Node × List Line) YamlFault
block_styled indent line offset lines None = Err (Unsupported line.number (offset + 1))
block_styled indent line offset lines (Some s) = do
  block ← block_lines s indent lines (block_indent indent lines)
  Ok (Scalar block.0 line.number (offset + 1) false, block.1)

unfoldable pub block_scalar : ℕ → Line → ℕ → List Line → Result (Node × List Line) YamlFault
block_scalar indent line offset lines = block_styled indent line offset lines (style_of (trimmed (drop offset line.text)))

-- ---- any scalar

-- `{`, `[`, `&`, `*` and `!` begin what the profile leaves out
abbrev pub is_left_out : ℕ → Bool
is_left_out b = b == 123 || b == 91 || b == 38 || b == 42 || b == 33

-- `%`, `@`, `,`, `]`, `}`, `?`, `:` and a backquote begin no scalar
abbrev pub begins_none : ℕ → Bool
begins_none b = b == 37 || b == 64 || b == 44 || b == 93 || b == 125 || b == 63 || b == 58 || b == 96

-- the scalar at an offset of a line, of a NAME or an item at this indent, and the lines after it
unfoldable pub scalar_at : ℕ → Line → ℕ → List Line → Result (Node × List Line) YamlFault
scalar_at indent line offset lines =
    let first = slice_index line.text offset in
    if first == 39 then single_scalar line offset lines
    else if first == 34 then double_scalar line offset lines
    else if first == 124 || first == 62 then block_scalar indent line offset lines
    else if is_left_out first then Err (Unsupported line.number (offset + 1))
    else if begins_none first then bad_scalar line offset
    else plain_scalar indent line offset lines
