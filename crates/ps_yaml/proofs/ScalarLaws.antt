-- What is read as a scalar is spelled so, and what is spelled so is read.
use Rattle.std.proofs.Common.{◌≡◌, ℕ, zero, suc, ◌+◌, if◌then◌else◌, List, [], ◌∷◌, ◌++◌, Bool, true, false, ◌==◌, ◌||◌, length, take, drop, slice_index, Option, Some, None, Result, Ok, refl, sym, ap, subst, ◌∙◌, inl, inr, arith}
use Rattle.std.proofs.lemmas.Bool.Decides.{nat_tests}
use Rattle.ps_yaml.specs.declared.nodes.Node.{Node}
use Rattle.ps_yaml.specs.declared.nodes.Node.TheVariants.{Scalar}
use Rattle.ps_yaml.specs.declared.faults.YamlFault.{YamlFault}
use Rattle.ps_yaml.specs.declared.scalars.Style.{Style}
use Rattle.std.specs.List.{list_all}
use Rattle.ps_data.specs.Chains.{◌>>=◌}
use Rattle.ps_yaml.specs.Lines.{Line, is_space, spaces}
use Rattle.ps_yaml.specs.Trees.{item_at, is_nested, item_offset}
use Rattle.ps_yaml.specs.Scalars.{bad_scalar, scalar_at, plain_scalar, plain_part, continued, has_colon, closed, is_line_end, single_scalar, single_closed, single_quoted, double_scalar, double_closed, double_quoted, unescaped, block_scalar, block_styled, block_lines, block_indent, block_len, style_of, trimmed, joined, ended, is_left_out, begins_none}
use Rattle.ps_yaml.specs.ScalarGrammar.{IsScalar, Escapes, doubled, is_mark, begins_block, IsPart, Continues, IsBlockMark, from_written, EndsBlock, BlockText}
use Rattle.ps_yaml.specs.ScalarGrammar as grammar
use Rattle.ps_yaml.proofs.Binds.{bind_ok, chosen, read, if_true, if_false, bind_at}
use Rattle.ps_yaml.proofs.Utf8.{byte_at, found_at, past}
use Rattle.ps_yaml.proofs.Plains.{trimmed_is, trim, part_only, part_found, continued_found, continued_only}
use Rattle.ps_yaml.proofs.Blocks.{ending, ending_is, ending_alone, mark_found, mark_only, mark_front, Styled, First, no_block_found, no_block_only, first_found, first_only, Walked, walk, counted}
use Rattle.ps_yaml.proofs.Quotes.{single_found, single_only, end_no_quote, double_found, double_closes, unescaped_only}

scalar_of : (indent : ℕ) (line : Line) (offset : ℕ) (lines : List Line) (r s : Node × List Line) → read r ≡ read s → IsScalar indent line offset lines r.0 r.1 → IsScalar indent line offset lines s.0 s.1
scalar_of indent line offset lines r s e h = let same : r ≡ s = cc in subst (λ (x : Node × List Line). IsScalar indent line offset lines x.0 x.1) same h

take_written : (written after : List ℕ) → take (length written) (written ++ 34 ∷ after) ≡ written
take_written [] after = refl
take_written (b ∷ written) after = ap (λ (u : List ℕ). b ∷ u) (take_written written after)

drop_written : (written after : List ℕ) → drop (length written + 1) (written ++ 34 ∷ after) ≡ after
drop_written [] after = refl
drop_written (b ∷ written) after = ap (λ (k : ℕ). drop k (b ∷ (written ++ 34 ∷ after))) (sym (past (length written))) ∙ drop_written written after

closed_found : (indent : ℕ) (line : Line) (offset : ℕ) (lines : List Line) (text after : List ℕ) (out : Node × List Line)
    → (is_line_end after ≡ true → IsScalar indent line offset lines (Scalar text line.number (offset + 1) false) lines) → closed line offset lines text after ≡ Ok out → IsScalar indent line offset lines out.0 out.1
unfolding closed
closed_found indent line offset lines text after out spelled e =
    elim (chosen (is_line_end after) _ _ (Ok out) e) [
      | inl h ↦ scalar_of indent line offset lines (Scalar text line.number (offset + 1) false, lines) out h.1 (spelled h.0)
      | inr h ↦ absurd (let z = h.1 in cc)
    ]

single_case : (indent : ℕ) (line : Line) (offset : ℕ) (lines : List Line) (out : Node × List Line) → (slice_index line.text offset == 39) ≡ true
    → (found : Option (List ℕ × List ℕ)) → single_quoted (drop (offset + 1) line.text) ≡ found → single_closed line offset lines found ≡ Ok out → IsScalar indent line offset lines out.0 out.1
single_case indent line offset lines out q None f e = cc
single_case indent line offset lines out q (Some x) f e =
    closed_found indent line offset lines x.0 x.1 out
    (grammar.single x.0 x.1 (byte_at line.text offset 39 (omega arith) q ∙ ap (λ (u : List ℕ). 39 ∷ u) (single_found (drop (offset + 1) line.text) x f))) e

double_case : (indent : ℕ) (line : Line) (offset : ℕ) (lines : List Line) (out : Node × List Line) → (slice_index line.text offset == 34) ≡ true
    → (found : Option ℕ) → double_quoted (drop (offset + 1) line.text) ≡ found → double_closed line offset lines found ≡ Ok out → IsScalar indent line offset lines out.0 out.1
double_case indent line offset lines out q None f e = cc
double_case indent line offset lines out q (Some n) f e =
    let body = drop (offset + 1) line.text in
    let b = bind_ok (unescaped line (offset + 1) (take n body)) _ out e in
    let w = double_found body n f line (offset + 1) b.0 b.1 in
    closed_found indent line offset lines b.0 (drop (n + 1) body) out
    (grammar.double (take n body) b.0 (drop (n + 1) body) (byte_at line.text offset 34 (omega arith) q ∙ ap (λ (u : List ℕ). 34 ∷ u) w.cut) w.escapes) b.2

-- what a mark alone on its line gives
record Marked (text : List ℕ) (style : Style) : Type 0 where
  mark : List ℕ
  behind : List ℕ
  cut : text ≡ mark ++ behind
  spaced : list_all is_space behind ≡ true
  is : IsBlockMark mark style.joint (ending style.ends)

marked : (text : List ℕ) (style : Style) → style_of (trimmed text) ≡ Some style → Marked text style
marked text style e =
    let t = trim text in
    let part : trimmed text ≡ t.part = ap trimmed t.cut ∙ trimmed_is t.part t.rest t.spaced t.whole in
    record { mark = t.part; behind = t.rest; cut = t.cut; spaced = t.spaced; is = mark_found t.part style (ap style_of (sym part) ∙ e) }

block_read : (indent : ℕ) (line : Line) (offset : ℕ) (lines : List Line) (style : Style) → Marked (drop offset line.text) style
    → (depth n : ℕ) → First indent depth (from_written lines) → Walked indent depth style.joint lines n
    → IsScalar indent line offset lines (Scalar (ended style.ends (joined style.joint depth (take n lines))) line.number (offset + 1) false) (drop n lines)
block_read indent line offset lines style m depth zero f w =
    let e : EndsBlock indent depth (f.first ∷ f.others) = subst (EndsBlock indent depth) f.is w in
    let d = f.depth_is in
    absurd (omega (arith, e.0, d))
block_read indent line offset lines style m depth (suc n) f w =
    let text = joined style.joint depth (take (suc n) lines) in
    let block : BlockText indent (spaces f.first.text) style.joint lines text (drop (suc n) lines) = subst (λ (d : ℕ). BlockText indent d style.joint lines text (drop (suc n) lines)) (sym f.depth_is) w in
    subst (λ (t : List ℕ). IsScalar indent line offset lines (Scalar t line.number (offset + 1) false) (drop (suc n) lines)) (ending_is style.ends text)
    (grammar.block m.mark m.behind style.joint (ending style.ends) f.first f.others text (drop (suc n) lines) m.cut m.spaced m.is f.is f.untabbed f.deeper block)

lines_case : (indent : ℕ) (line : Line) (offset : ℕ) (lines : List Line) (out : Node × List Line) (style : Style) → Marked (drop offset line.text) style
    → (depth : Option ℕ) → block_indent indent lines ≡ depth → (block : List ℕ × List Line) → block_lines style indent lines depth ≡ Ok block → read (Scalar block.0 line.number (offset + 1) false, block.1) ≡ read out
    → IsScalar indent line offset lines out.0 out.1
lines_case indent line offset lines out style m None d block e r =
    let same : (ended style.ends [], lines) ≡ block = (let z = e in cc) in
    scalar_of indent line offset lines (Scalar (ended style.ends []) line.number (offset + 1) false, lines) out
    (ap (λ (x : List ℕ × List Line). read (Scalar x.0 line.number (offset + 1) false, x.1)) same ∙ r)
    (subst (λ (t : List ℕ). IsScalar indent line offset lines (Scalar t line.number (offset + 1) false) lines) (ending_alone style.ends)
    (grammar.empty_block m.mark m.behind style.joint (ending style.ends) m.cut m.spaced m.is (no_block_found indent lines d)))
lines_case indent line offset lines out style m (Some depth) d block e r =
    let b = bind_ok (block_len indent depth lines) _ block e in
    let same : (ended style.ends (joined style.joint depth (take b.0 lines)), drop b.0 lines) ≡ block = (let z = b.2 in cc) in
    scalar_of indent line offset lines (Scalar (ended style.ends (joined style.joint depth (take b.0 lines))) line.number (offset + 1) false, drop b.0 lines) out
    (ap (λ (x : List ℕ × List Line). read (Scalar x.0 line.number (offset + 1) false, x.1)) same ∙ r)
    (block_read indent line offset lines style m depth b.0 (first_found indent lines depth d) (walk indent depth style.joint lines b.0 b.1))

block_case : (indent : ℕ) (line : Line) (offset : ℕ) (lines : List Line) (out : Node × List Line)
    → (found : Option Style) → style_of (trimmed (drop offset line.text)) ≡ found → block_styled indent line offset lines found ≡ Ok out → IsScalar indent line offset lines out.0 out.1
block_case indent line offset lines out None f e = cc
block_case indent line offset lines out (Some style) f e =
    let b = bind_ok (block_lines style indent lines (block_indent indent lines)) _ out e in
    lines_case indent line offset lines out style (marked (drop offset line.text) style f) (block_indent indent lines) refl b.0 b.1 b.2

no_mark : (q d p l n : Bool) → q ≡ false → d ≡ false → p ≡ false → l ≡ false → n ≡ false → (q || d || p || l || n) ≡ false
no_mark q d p l n a b c e f = grind arith

plain_case : (indent : ℕ) (line : Line) (offset : ℕ) (lines : List Line) (out : Node × List Line) → is_mark (slice_index line.text offset) ≡ false → plain_scalar indent line offset lines ≡ Ok out → IsScalar indent line offset lines out.0 out.1
unfolding plain_scalar
plain_case indent line offset lines out m e =
    let text = plain_part (drop offset line.text) ++ (continued indent lines).0 in
    elim (chosen (has_colon text) _ _ (Ok out) e) [
      | inl h ↦ absurd (let z = h.1 in cc)
      | inr h ↦ scalar_of indent line offset lines (Scalar text line.number (offset + 1) true, (continued indent lines).1) out h.1
          (grammar.plain (plain_part (drop offset line.text)) (continued indent lines).0 (continued indent lines).1 m (part_found (drop offset line.text)) (continued_found indent lines) h.0)
    ]

marks : (b : ℕ) → (b == 39) ≡ false → (b == 34) ≡ false → (b == 124 || b == 62) ≡ false → is_left_out b ≡ false → begins_none b ≡ false → is_mark b ≡ false
marks b q d p l n = no_mark (b == 39) (b == 34) (begins_block b) (is_left_out b) (begins_none b) q d p l n

pub scalar_found : (indent : ℕ) (line : Line) (offset : ℕ) (lines : List Line) (out : Node × List Line) → scalar_at indent line offset lines ≡ Ok out → IsScalar indent line offset lines out.0 out.1
unfolding scalar_at single_scalar double_scalar block_scalar
scalar_found indent line offset lines out e =
    let first = slice_index line.text offset in
    elim (chosen (first == 39) _ _ (Ok out) e) [
      | inl q ↦ single_case indent line offset lines out q.0 (single_quoted (drop (offset + 1) line.text)) refl q.1
      | inr q ↦ elim (chosen (first == 34) _ _ (Ok out) q.1) [
        | inl d ↦ double_case indent line offset lines out d.0 (double_quoted (drop (offset + 1) line.text)) refl d.1
        | inr d ↦ elim (chosen (first == 124 || first == 62) _ _ (Ok out) d.1) [
          | inl p ↦ block_case indent line offset lines out (style_of (trimmed (drop offset line.text))) refl p.1
          | inr p ↦ elim (chosen (is_left_out first) _ _ (Ok out) p.1) [
            | inl l ↦ absurd (let z = l.1 in cc)
            | inr l ↦ elim (chosen (begins_none first) _ _ (Ok out) l.1) [
              | inl n ↦ absurd (let z = n.1 in cc)
              | inr n ↦ plain_case indent line offset lines out (marks first q.0 d.0 p.0 l.0 n.0) n.1
            ]
          ]
        ]
      ]
    ]

-- ---- the other way

unmarked : (q d p l n : Bool) → (q || d || p || l || n) ≡ false → (q ≡ false) × (d ≡ false) × (p ≡ false) × (l ≡ false) × (n ≡ false)
unmarked true d p l n h = grind arith
unmarked false true p l n h = grind arith
unmarked false false true l n h = grind arith
unmarked false false false true n h = grind arith
unmarked false false false false n h = (refl, refl, refl, refl, h)

block_no_quote : (b : ℕ) → begins_block b ≡ true → (b == 39) ≡ false
block_no_quote b h = grind (arith, nat_tests)

block_no_double : (b : ℕ) → begins_block b ≡ true → (b == 34) ≡ false
block_no_double b h = grind (arith, nat_tests)

closed_only : (line : Line) (offset : ℕ) (lines : List Line) (text after : List ℕ) → is_line_end after ≡ true → closed line offset lines text after ≡ Ok (Scalar text line.number (offset + 1) false, lines)
unfolding closed
closed_only line offset lines text after h = if_true (is_line_end after) _ _ h

abbrev plain_at : Line → ℕ → List ℕ → List ℕ × List Line → Result (Node × List Line) YamlFault
plain_at line offset part rest = if has_colon (part ++ rest.0) then bad_scalar line offset else Ok (Scalar (part ++ rest.0) line.number (offset + 1) true, rest.1)

plain_only : (indent : ℕ) (line : Line) (offset : ℕ) (lines : List Line) (part more : List ℕ) (after : List Line) → IsPart (drop offset line.text) part → Continues indent lines more after → has_colon (part ++ more) ≡ false
    → plain_scalar indent line offset lines ≡ Ok (Scalar (part ++ more) line.number (offset + 1) true, after)
unfolding plain_scalar
plain_only indent line offset lines part more after p c h =
    ap (λ (u : List ℕ). plain_at line offset u (continued indent lines)) (part_only p) ∙ ap (plain_at line offset part) (continued_only c)
    ∙ if_false (has_colon (part ++ more)) _ _ h

abbrev double_closed_at : Line → ℕ → List Line → List ℕ → Option ℕ → Result (Node × List Line) YamlFault
double_closed_at line offset lines body None = bad_scalar line offset
double_closed_at line offset lines body (Some n) = unescaped line (offset + 1) (take n body) >>= (λ (text : List ℕ). closed line offset lines text (drop (n + 1) body))

closed_at : (line : Line) (offset : ℕ) (lines : List Line) (found : Option ℕ) → double_closed line offset lines found ≡ double_closed_at line offset lines (drop (offset + 1) line.text) found
closed_at line offset lines None = refl
closed_at line offset lines (Some n) = refl

double_only : (line : Line) (offset : ℕ) (lines : List Line) (written text after : List ℕ) → drop (offset + 1) line.text ≡ written ++ 34 ∷ after → Escapes written text → is_line_end after ≡ true
    → double_scalar line offset lines ≡ Ok (Scalar text line.number (offset + 1) false, lines)
unfolding double_scalar
double_only line offset lines written text after is escapes h =
    closed_at line offset lines (double_quoted (drop (offset + 1) line.text))
    ∙ ap (λ (body : List ℕ). double_closed_at line offset lines body (double_quoted body)) is
    ∙ ap (double_closed_at line offset lines (written ++ 34 ∷ after)) (double_closes escapes after)
    ∙ ap (λ (w : List ℕ). unescaped line (offset + 1) w >>= (λ (t : List ℕ). closed line offset lines t (drop (length written + 1) (written ++ 34 ∷ after)))) (take_written written after)
    ∙ bind_at (unescaped line (offset + 1) written) _ text (unescaped_only escapes line (offset + 1))
    ∙ ap (closed line offset lines text) (drop_written written after)
    ∙ closed_only line offset lines text after h

block_only : (indent : ℕ) (line : Line) (offset : ℕ) (lines : List Line) (mark behind : List ℕ) (joint : ℕ) (close : List ℕ) → drop offset line.text ≡ mark ++ behind → list_all is_space behind ≡ true → IsBlockMark mark joint close
    → (s : Styled mark joint close) → scalar_at indent line offset lines ≡ block_styled indent line offset lines (Some (record { joint = joint; ends = s.ends }))
unfolding scalar_at block_scalar
block_only indent line offset lines mark behind joint close cut spaced is s =
    let first = slice_index line.text offset in
    let f = mark_front is behind in
    let at = found_at line.text offset f.0 f.1 (cut ∙ f.2) in
    let m : begins_block first ≡ true = ap begins_block at.0 ∙ f.3 in
    if_false (first == 39) _ _ (block_no_quote first m) ∙ if_false (first == 34) _ _ (block_no_double first m) ∙ if_true (begins_block first) _ _ m
    ∙ ap (block_styled indent line offset lines) (ap (λ (u : List ℕ). style_of (trimmed u)) cut ∙ ap style_of (trimmed_is mark behind spaced s.whole) ∙ s.style)

pub scalar_only : (indent : ℕ) (line : Line) (offset : ℕ) (lines : List Line) {node : Node} {after : List Line} → IsScalar indent line offset lines node after → scalar_at indent line offset lines ≡ Ok (node, after)
unfolding scalar_at single_scalar block_scalar
scalar_only indent line offset lines (grammar.plain part more after m p c h) =
    let first = slice_index line.text offset in
    let w = unmarked (first == 39) (first == 34) (begins_block first) (is_left_out first) (begins_none first) m in
    if_false (first == 39) _ _ w.0 ∙ if_false (first == 34) _ _ w.1 ∙ if_false (begins_block first) _ _ w.2 ∙ if_false (is_left_out first) _ _ w.3 ∙ if_false (begins_none first) _ _ w.4
    ∙ plain_only indent line offset lines part more after p c h
scalar_only indent line offset lines (grammar.single text after is h) =
    let f = found_at line.text offset 39 (doubled text ++ 39 ∷ after) is in
    if_true (slice_index line.text offset == 39) _ _ (ap (λ (b : ℕ). b == 39) f.0)
    ∙ ap (single_closed line offset lines) (ap single_quoted f.1 ∙ single_only text after (end_no_quote after h))
    ∙ closed_only line offset lines text after h
scalar_only indent line offset lines (grammar.double written text after is escapes h) =
    let f = found_at line.text offset 34 (written ++ 34 ∷ after) is in
    if_false (slice_index line.text offset == 39) _ _ (ap (λ (b : ℕ). b == 39) f.0) ∙ if_true (slice_index line.text offset == 34) _ _ (ap (λ (b : ℕ). b == 34) f.0)
    ∙ double_only line offset lines written text after f.1 escapes h
scalar_only indent line offset lines (grammar.empty_block mark behind joint close cut spaced is none) =
    let s = mark_only is in
    let style : Style = record { joint = joint; ends = s.ends } in
    block_only indent line offset lines mark behind joint close cut spaced is s
    ∙ bind_at (block_lines style indent lines (block_indent indent lines)) _ (ended s.ends [], lines) (ap (block_lines style indent lines) (no_block_only indent lines none))
    ∙ ap (λ (t : List ℕ). read (Scalar t line.number (offset + 1) false, lines)) (sym (ending_alone s.ends) ∙ s.close_is)
scalar_only indent line offset lines (grammar.block mark behind joint close first others text after cut spaced is front untabbed deep block) =
    let s = mark_only is in
    let style : Style = record { joint = joint; ends = s.ends } in
    let depth = spaces first.text in
    let c = counted block in
    let n = suc c.less in
    block_only indent line offset lines mark behind joint close cut spaced is s
    ∙ bind_at (block_lines style indent lines (block_indent indent lines)) _ (ended s.ends (joined joint depth (take n lines)), drop n lines)
    (ap (block_lines style indent lines) (first_only indent lines first others front untabbed deep) ∙ bind_at (block_len indent depth lines) _ n c.len)
    ∙ ap (λ (t : List ℕ). read (Scalar (ended s.ends t) line.number (offset + 1) false, drop n lines)) c.text_is
    ∙ ap (λ (a : List Line). read (Scalar (ended s.ends text) line.number (offset + 1) false, a)) c.after_is
    ∙ ap (λ (t : List ℕ). read (Scalar t line.number (offset + 1) false, after)) (sym (ending_is s.ends text) ∙ ap (λ (u : List ℕ). text ++ u) s.close_is)

-- ---- the same for an item's scalar

pub item_found : (line : Line) (lines : List Line) (out : Node × List Line) → item_at line lines ≡ Ok out → (is_nested (drop (item_offset line) line.text) ≡ false) × IsScalar (spaces line.text) line (item_offset line) lines out.0 out.1
unfolding item_at
item_found line lines out e =
    elim (chosen (is_nested (drop (item_offset line) line.text)) _ _ (Ok out) e) [
      | inl h ↦ absurd (let z = h.1 in cc)
      | inr h ↦ (h.0, scalar_found (spaces line.text) line (item_offset line) lines out h.1)
    ]

pub item_only : (line : Line) (lines : List Line) {node : Node} {after : List Line} → is_nested (drop (item_offset line) line.text) ≡ false → IsScalar (spaces line.text) line (item_offset line) lines node after → item_at line lines ≡ Ok (node, after)
unfolding item_at
item_only line lines n h = if_false (is_nested (drop (item_offset line) line.text)) _ _ n ∙ scalar_only (spaces line.text) line (item_offset line) lines h
