-- The part that a line gives to a plain scalar, and the lines that continue one: the grammar and the reading function agree.
use Rattle.std.proofs.Common.{◌≡◌, ℕ, zero, suc, ◌+◌, ◌-◌, ◌<◌, ◌≤◌, List, [], ◌∷◌, ◌++◌, Bool, true, false, ◌==◌, ◌||◌, ◌&&◌, not, nat_lt, if◌then◌else◌, length, take, drop, get_or, refl, sym, ap, subst, ◌∙◌, inl, inr, ◌⊎◌, arith}
use Rattle.std.specs.List.{suffix_len, list_all}
use Rattle.std.proofs.lemmas.List.{length-append}
use Rattle.std.proofs.lemmas.List.Sums.{suffix_len_is}
use Rattle.std.proofs.lemmas.Bool.Decides.{nat_tests}
use Rattle.ps_yaml.specs.declared.lines.Kind.{Kind}
use Rattle.ps_yaml.specs.declared.lines.Kind.TheVariants.{Blank, Comment, Tabbed, Content}
use Rattle.ps_yaml.specs.Lines.{Line, begins, is_space, spaces, content, kind_of, is_passed}
use Rattle.ps_yaml.specs.Scalars.{is_empty, is_line_end, before_comment, trimmed, plain_part, continued, is_content}
use Rattle.ps_yaml.specs.ScalarGrammar.{has_ending_space, IsPart, is_deeper, Continues}
use Rattle.ps_yaml.specs.ScalarGrammar as grammar
use Rattle.ps_yaml.proofs.Binds.{decided, if_true, if_false}
use Rattle.ps_yaml.proofs.Utf8.{front_take}

-- ---- spaces at an end

abbrev pub ends_spaced : List ℕ → Bool
ends_spaced [] = false
ends_spaced (b ∷ []) = is_space b
ends_spaced (b ∷ c ∷ bytes) = ends_spaced (c ∷ bytes)

pub and_parts : (a b : Bool) → (a && b) ≡ true → (a ≡ true) × (b ≡ true)
and_parts true b h = (refl, h)
and_parts false b h = cc

or_parts : (a b : Bool) → (a || b) ≡ false → (a ≡ false) × (b ≡ false)
or_parts true b h = cc
or_parts false b h = (refl, h)

space_at : (rest : List ℕ) (k : ℕ) → k < length rest → list_all is_space rest ≡ true → is_space (get_or rest k 0) ≡ true
space_at [] k l h = absurd (omega arith)
space_at (b ∷ rest) zero l h = (and_parts (is_space b) (list_all is_space rest) h).0
space_at (b ∷ rest) (suc k) l h = space_at rest k (omega arith) (and_parts (is_space b) (list_all is_space rest) h).1

behind_part : (part rest : List ℕ) (k : ℕ) → length part ≤ k → k < length (part ++ rest) → list_all is_space rest ≡ true → is_space (get_or (part ++ rest) k 0) ≡ true
behind_part [] rest k m l h = space_at rest k l h
behind_part (b ∷ part) rest zero m l h = absurd (omega arith)
behind_part (b ∷ part) rest (suc k) m l h = behind_part part rest k (omega arith) (omega arith) h

last_of : (part rest : List ℕ) (m : ℕ) → length part ≡ suc m → ends_spaced part ≡ false → is_space (get_or (part ++ rest) m 0) ≡ false
last_of [] rest m n h = absurd (omega arith)
last_of (b ∷ []) rest zero n h = h
last_of (b ∷ []) rest (suc m) n h = absurd (omega arith)
last_of (b ∷ c ∷ part) rest zero n h = absurd (omega arith)
last_of (b ∷ c ∷ part) rest (suc m) n h = last_of (c ∷ part) rest m (omega arith) h

pub trimmed_is : (part rest : List ℕ) → list_all is_space rest ≡ true → ends_spaced part ≡ false → trimmed (part ++ rest) ≡ part
unfolding trimmed
trimmed_is part rest all h =
    let xs = part ++ rest in
    let n = length part in
    let l = length-append part rest in
    let at : suffix_len is_space xs ≡ length xs - n = suffix_len_is is_space xs n 0 (omega (arith, l)) (λ k m o. behind_part part rest k m o all)
    (λ some. last_of part rest (n - 1) (omega arith) h) in
    let kept : length xs - suffix_len is_space xs ≡ n = omega (arith, l, at) in
    ap (λ (k : ℕ). take k xs) kept ∙ front_take part rest

-- a text, without the spaces at its end and with them
pub record Trimmed (text : List ℕ) : Type 0 where
  pub part : List ℕ
  pub rest : List ℕ
  pub cut : text ≡ part ++ rest
  pub spaced : list_all is_space rest ≡ true
  pub whole : ends_spaced part ≡ false

trim_more : (b : ℕ) (text part rest : List ℕ) → text ≡ part ++ rest → list_all is_space rest ≡ true → ends_spaced part ≡ false → Trimmed (b ∷ text)
trim_more b text [] rest cut spaced whole =
    elim (decided (is_space b)) [
      | inl s ↦ record { part = []; rest = b ∷ text; cut = refl; spaced = ap (λ (v : Bool). v && list_all is_space text) s ∙ ap (list_all is_space) cut ∙ spaced; whole = refl }
      | inr s ↦ record { part = b ∷ []; rest = rest; cut = ap (λ (u : List ℕ). b ∷ u) cut; spaced = spaced; whole = s }
    ]
trim_more b text (d ∷ part) rest cut spaced whole = record { part = b ∷ d ∷ part; rest = rest; cut = ap (λ (u : List ℕ). b ∷ u) cut; spaced = spaced; whole = whole }

pub trim : (text : List ℕ) → Trimmed text
trim [] = record { part = []; rest = []; cut = refl; spaced = refl; whole = refl }
trim (b ∷ text) = let t = trim text in trim_more b text t.part t.rest t.cut t.spaced t.whole

-- ---- what a line's end is

lt_some : (n : ℕ) → nat_lt 0 (suc n) ≡ true
lt_some n = grind (arith, nat_tests)

not_empty : (b : ℕ) (text : List ℕ) → is_empty (b ∷ text) ≡ false
not_empty b text = let h : (suc (length text) == 0) ≡ false = grind (arith, nat_tests) in h

some_more : (e l g : Bool) (n : ℕ) → (e || (l && g)) ≡ true → (e || (nat_lt 0 (suc n) && g)) ≡ true
some_more true l g n h = refl
some_more false true g n h = ap (λ (v : Bool). v && g) (lt_some n) ∙ h
some_more false false g n h = cc

or_true : (e : Bool) → (e || true) ≡ true
or_true true = refl
or_true false = refl

one_plus : (n : ℕ) → 1 + n ≡ suc n
one_plus n = omega arith

pub spaces_more : (b : ℕ) (text : List ℕ) (space : Bool) → is_space b ≡ space → spaces (b ∷ text) ≡ (if space then suc (spaces text) else 0)
unfolding spaces
spaces_more b text true h = ap (λ (v : Bool). if not (not v) then 1 + spaces text else 0) h ∙ one_plus (spaces text)
spaces_more b text false h = ap (λ (v : Bool). if not (not v) then 1 + spaces text else 0) h

abbrev ends_behind : List ℕ → ℕ → Bool
ends_behind text n = is_empty (drop n text) || (nat_lt 0 n && begins 35 (drop n text))

end_spaced : (text : List ℕ) → is_line_end text ≡ true → is_line_end (32 ∷ text) ≡ true
unfolding is_line_end
end_spaced text h = ap (ends_behind (32 ∷ text)) (spaces_more 32 text true refl) ∙ some_more (is_empty (drop (spaces text) text)) (nat_lt 0 (spaces text)) (begins 35 (drop (spaces text) text)) (spaces text) h

is_mark_byte : (b : ℕ) → (b == 35) ≡ true → b ≡ 35
is_mark_byte b h = grind (arith, nat_tests)

is_space_byte : (b : ℕ) → (b == 32) ≡ true → b ≡ 32
is_space_byte b h = grind (arith, nat_tests)

comment_at : (text : List ℕ) → is_line_end (32 ∷ 35 ∷ text) ≡ true
unfolding is_line_end spaces
comment_at text = or_true (is_empty (35 ∷ text))

end_comment : (text : List ℕ) → begins 35 text ≡ true → is_line_end (32 ∷ text) ≡ true
end_comment [] h = cc
end_comment (b ∷ text) h = subst (λ (c : ℕ). is_line_end (32 ∷ c ∷ text) ≡ true) (sym (is_mark_byte b h)) (comment_at text)

no_cons : (b : ℕ) (text : List ℕ) → (is_empty (b ∷ text) || false) ≡ true → ⊥
no_cons b text h = let z = not_empty b text in let y : (false || false) ≡ true = sym (ap (λ (v : Bool). v || false) z) ∙ h in cc

no_first_space : (b : ℕ) (text : List ℕ) → (b == 32) ≡ false → is_line_end (b ∷ text) ≡ true → ⊥
unfolding is_line_end
no_first_space b text s h = no_cons b text (sym (ap (ends_behind (b ∷ text)) (spaces_more b text false s)) ∙ h)

split_end : (n : ℕ) (text : List ℕ) → (is_empty (drop n text) || (nat_lt 0 (suc n) && begins 35 (drop n text))) ≡ true
    → (begins 35 text ≡ true) ⊎ ((is_empty (drop n text) || (nat_lt 0 n && begins 35 (drop n text))) ≡ true)
split_end zero [] h = inr refl
split_end zero (b ∷ text) h = inl (sym (ap (λ (v : Bool). v || (nat_lt 0 1 && (b == 35))) (not_empty b text)) ∙ h)
split_end (suc n) text h = inr (ap (λ (v : Bool). is_empty (drop (suc n) text) || (v && begins 35 (drop (suc n) text))) (lt_some n ∙ sym (lt_some (suc n))) ∙ h)

behind_space : (text : List ℕ) → is_line_end (32 ∷ text) ≡ true → (begins 35 text ≡ true) ⊎ (is_line_end text ≡ true)
unfolding is_line_end
behind_space text h = split_end (spaces text) text (sym (ap (ends_behind (32 ∷ text)) (spaces_more 32 text true refl)) ∙ h)

-- before a comment at a line's end stand spaces alone
before_spaces : (text : List ℕ) → is_line_end text ≡ true → list_all is_space (before_comment text) ≡ true
before_spaces [] h = refl
before_spaces (b ∷ text) h =
    elim (decided (b == 32)) [
      | inl s ↦
          let ends : is_line_end (32 ∷ text) ≡ true = subst (λ (c : ℕ). is_line_end (c ∷ text) ≡ true) (is_space_byte b s) h in
          elim (decided (begins 35 text)) [
            | inl c ↦
                let both : (b == 32 && begins 35 text) ≡ true = grind (arith, s, c) in
                ap (list_all is_space) (if_true (b == 32 && begins 35 text) _ _ both)
            | inr c ↦
                let one : (b == 32 && begins 35 text) ≡ false = grind (arith, s, c) in
                let more : is_line_end text ≡ true = elim (behind_space text ends) [ inl k ↦ absurd (let z = k in let y = c in cc) | inr k ↦ k ] in
                ap (list_all is_space) (if_false (b == 32 && begins 35 text) _ _ one) ∙ ap (λ (v : Bool). v && list_all is_space (before_comment text)) s ∙ before_spaces text more
          ]
      | inr s ↦ absurd (no_first_space b text s h)
    ]

-- ---- a line's part

part_rest : (part rest : List ℕ) → has_ending_space part ≡ false → before_comment (part ++ rest) ≡ part ++ before_comment rest
part_rest [] rest h = refl
part_rest (b ∷ []) rest h =
    let w = or_parts (b == 32 && true) false h in
    let no : (b == 32 && begins 35 rest) ≡ false = grind (arith, w.0) in
    if_false (b == 32 && begins 35 rest) _ _ no
part_rest (b ∷ c ∷ part) rest h =
    let w = or_parts (b == 32 && (is_empty (c ∷ part) || (c == 35))) (has_ending_space (c ∷ part)) h in
    let no : (b == 32 && (c == 35)) ≡ false = grind (arith, w.0) in
    if_false (b == 32 && (c == 35)) _ _ no ∙ ap (λ (u : List ℕ). b ∷ u) (part_rest (c ∷ part) rest w.1)

part_spaced : (part : List ℕ) → has_ending_space part ≡ false → ends_spaced part ≡ false
part_spaced [] h = refl
part_spaced (b ∷ []) h = let w = or_parts (b == 32 && true) false h in grind (arith, w.0)
part_spaced (b ∷ c ∷ part) h = part_spaced (c ∷ part) (or_parts (b == 32 && (is_empty (c ∷ part) || (c == 35))) (has_ending_space (c ∷ part)) h).1

pub part_only : {text part : List ℕ} → IsPart text part → plain_part text ≡ part
unfolding plain_part
part_only {text} {part} p =
    ap (λ (u : List ℕ). trimmed (before_comment u)) p.cut ∙ ap trimmed (part_rest part p.behind p.whole)
    ∙ trimmed_is part (before_comment p.behind) (before_spaces p.behind p.ends) (part_spaced part p.whole)

part_more : (b : ℕ) (text part : List ℕ) → (b == 32 && begins 35 text) ≡ false → IsPart text part → (more : List ℕ) × IsPart (b ∷ text) more
part_more b text [] c p =
    elim (decided (b == 32)) [
      | inl s ↦ (
        [],
        record {
          behind = b ∷ text;
          cut = refl;
          whole = refl;
          ends = subst (λ (d : ℕ). is_line_end (d ∷ text) ≡ true) (sym (is_space_byte b s)) (end_spaced text (ap is_line_end p.cut ∙ p.ends));
        },
      )
      | inr s ↦ (b ∷ [], record { behind = p.behind; cut = ap (λ (u : List ℕ). b ∷ u) p.cut; ends = p.ends; whole = grind (arith, s) })
    ]
part_more b text (d ∷ part) c p =
    let same : begins 35 text ≡ (d == 35) = ap (begins 35) p.cut in
    let no : (b == 32 && (is_empty (d ∷ part) || (d == 35))) ≡ false = grind (arith, nat_tests, same, c) in
    (b ∷ d ∷ part, record { behind = p.behind; cut = ap (λ (u : List ℕ). b ∷ u) p.cut; ends = p.ends; whole = ap (λ (v : Bool). v || has_ending_space (d ∷ part)) no ∙ p.whole })

end_empty : is_line_end [] ≡ true
unfolding is_line_end spaces
end_empty = refl

some_part : (text : List ℕ) → (part : List ℕ) × IsPart text part
some_part [] = ([], record { behind = []; cut = refl; ends = end_empty; whole = refl })
some_part (b ∷ text) =
    elim (decided (b == 32 && begins 35 text)) [
      | inl h ↦
          let w = and_parts (b == 32) (begins 35 text) h in
          ([], record { behind = b ∷ text; cut = refl; whole = refl; ends = subst (λ (d : ℕ). is_line_end (d ∷ text) ≡ true) (sym (is_space_byte b w.0)) (end_comment text w.1) })
      | inr h ↦ let p = some_part text in part_more b text p.0 h p.1
    ]

pub part_found : (text : List ℕ) → IsPart text (plain_part text)
part_found text = let p = some_part text in subst (IsPart text) (sym (part_only p.1)) p.1

-- ---- the lines behind

abbrev Rest : Type 0
Rest = List ℕ × List Line

pub continued_found : (indent : ℕ) (lines : List Line) → Continues indent lines (continued indent lines).0 (continued indent lines).1
continued_found indent [] = grammar.end
continued_found indent (line ∷ lines) =
    let rest = continued_found indent lines in
    let P : Rest → Type 0 = λ (r : Rest). Continues indent (line ∷ lines) r.0 r.1 in
    let part : Rest = (32 ∷ plain_part (content line) ++ (continued indent lines).0, (continued indent lines).1) in
    elim (decided (is_passed (kind_of line.text))) [
      | inl h ↦ subst P (sym (if_true (is_passed (kind_of line.text)) (continued indent lines) _ h)) (grammar.passed line lines (continued indent lines).0 (continued indent lines).1 h rest)
      | inr h ↦ elim (decided (is_deeper indent line)) [
        | inl d ↦
            subst P (sym (if_false (is_passed (kind_of line.text)) (continued indent lines) _ h ∙ if_true (is_deeper indent line) part ([], line ∷ lines) d))
            (grammar.deeper line lines (plain_part (content line)) (continued indent lines).0 (continued indent lines).1 d (part_found (content line)) rest)
        | inr d ↦
            subst P (sym (if_false (is_passed (kind_of line.text)) (continued indent lines) _ h ∙ if_false (is_deeper indent line) part ([], line ∷ lines) d))
            (grammar.other line lines h d)
      ]
    ]

content_not_passed : (kind : Kind) (deep : Bool) → (is_content kind && deep) ≡ true → is_passed kind ≡ false
content_not_passed Blank deep h = cc
content_not_passed Comment deep h = cc
content_not_passed Tabbed deep h = refl
content_not_passed Content deep h = refl

pub continued_only : {indent : ℕ} {lines : List Line} {text : List ℕ} {after : List Line} → Continues indent lines text after → continued indent lines ≡ (text, after)
continued_only grammar.end = refl
continued_only (grammar.passed line lines text after h more) = if_true (is_passed (kind_of line.text)) _ _ h ∙ continued_only more
continued_only {indent} (grammar.deeper line lines part text after d p more) =
    if_false (is_passed (kind_of line.text)) _ _ (content_not_passed (kind_of line.text) (nat_lt indent (spaces line.text)) d) ∙ if_true (is_deeper indent line) _ _ d
    ∙ ap (λ (r : Rest). (32 ∷ plain_part (content line) ++ r.0, r.1)) (continued_only more) ∙ ap (λ (u : List ℕ). (32 ∷ u ++ text, after)) (part_only p)
continued_only {indent} (grammar.other line lines h d) = if_false (is_passed (kind_of line.text)) _ _ h ∙ if_false (is_deeper indent line) _ _ d
