-- What stands between quotes, and how it is written.
use Rattle.std.proofs.Common.{◌≡◌, ℕ, suc, ◌+◌, List, [], ◌∷◌, ◌++◌, Bool, true, false, ◌==◌, ◌||◌, if◌then◌else◌, length, take, drop, Option, Some, None, option_map, Result, Ok, refl, sym, ap, subst, ◌∙◌, inl, inr, arith}
use Rattle.std.proofs.lemmas.Bool.Decides.{nat_tests}
use Rattle.ps_yaml.specs.declared.faults.YamlFault.{YamlFault}
use Rattle.ps_yaml.specs.Lines.{Line, begins, spaces}
use Rattle.ps_yaml.specs.Scalars.{is_line_end, single_quoted, behind_quote, with_front, double_quoted, behind_backslash, escaped, onto, or_bad, unescaped, after_backslash}
use Rattle.ps_yaml.specs.ScalarGrammar.{doubled, Escapes}
use Rattle.ps_yaml.specs.ScalarGrammar as grammar
use Rattle.ps_yaml.proofs.Binds.{bind_ok, chosen}

abbrev Found : Type 0
Found = List ℕ × List ℕ

pub front_found : (front : List ℕ) (found : Option Found) (x : Found) → with_front front found ≡ Some x → (y : Found) × (found ≡ Some y) × (front ++ y.0 ≡ x.0) × (y.1 ≡ x.1)
front_found front None x e = cc
front_found front (Some y) x e = let same : (front ++ y.0, y.1) ≡ x = cc in (y, refl, ap (λ (z : Found). z.0) same, ap (λ (z : Found). z.1) same)

is_quote : (b : ℕ) → (b == 39) ≡ true → b ≡ 39
is_quote b h = grind (arith, nat_tests)

mutual
  pub single_found : (bytes : List ℕ) (x : Found) → single_quoted bytes ≡ Some x → bytes ≡ doubled x.0 ++ 39 ∷ x.1
  single_found [] x e = cc
  single_found (b ∷ bytes) x e =
      elim (chosen (b == 39) _ _ (Some x) e) [
        | inl h ↦ ap (λ (c : ℕ). c ∷ bytes) (is_quote b h.0) ∙ behind_found bytes x h.1
        | inr h ↦
            let f = front_found (b ∷ []) (single_quoted bytes) x h.1 in
            let more : b ∷ bytes ≡ b ∷ (doubled f.0.0 ++ 39 ∷ f.0.1) = ap (λ (u : List ℕ). b ∷ u) (single_found bytes f.0 f.1) in
            let kept : doubled (b ∷ f.0.0) ≡ b ∷ doubled f.0.0 = ap (λ (v : Bool). if v then 39 ∷ 39 ∷ doubled f.0.0 else b ∷ doubled f.0.0) h.0 in
            more ∙ ap (λ (u : List ℕ). u ++ 39 ∷ f.0.1) (sym kept) ∙ ap (λ (u : List ℕ). doubled u ++ 39 ∷ f.0.1) f.2 ∙ ap (λ (u : List ℕ). doubled x.0 ++ 39 ∷ u) f.3
      ]

  behind_found : (bytes : List ℕ) (x : Found) → behind_quote bytes ≡ Some x → 39 ∷ bytes ≡ doubled x.0 ++ 39 ∷ x.1
  behind_found [] x e = let same : ([], []) ≡ x = cc in ap (λ (z : Found). doubled z.0 ++ 39 ∷ z.1) same
  behind_found (b ∷ bytes) x e =
      elim (chosen (b == 39) _ _ (Some x) e) [
        | inl h ↦
            let f = front_found (39 ∷ []) (single_quoted bytes) x h.1 in
            ap (λ (c : ℕ). 39 ∷ c ∷ bytes) (is_quote b h.0) ∙ ap (λ (u : List ℕ). 39 ∷ 39 ∷ u) (single_found bytes f.0 f.1)
            ∙ ap (λ (u : List ℕ). doubled u ++ 39 ∷ f.0.1) f.2 ∙ ap (λ (u : List ℕ). doubled x.0 ++ 39 ∷ u) f.3
        | inr h ↦ let same : ([], b ∷ bytes) ≡ x = (let z = h.1 in cc) in ap (λ (z : Found). doubled z.0 ++ 39 ∷ z.1) same
      ]

quote_closes : (tail : List ℕ) → begins 39 tail ≡ false → behind_quote tail ≡ Some ([], tail)
quote_closes [] h = refl
quote_closes (b ∷ tail) h = ap (λ (v : Bool). if v then with_front (39 ∷ []) (single_quoted tail) else Some ([], b ∷ tail)) h

single_one : (b : ℕ) (text tail : List ℕ) (quote : Bool) → (b == 39) ≡ quote → single_quoted (doubled text ++ 39 ∷ tail) ≡ Some (text, tail) → single_quoted (doubled (b ∷ text) ++ 39 ∷ tail) ≡ Some (b ∷ text, tail)
single_one b text tail true q more =
    ap (λ (v : Bool). single_quoted ((if v then 39 ∷ 39 ∷ doubled text else b ∷ doubled text) ++ 39 ∷ tail)) q
    ∙ ap (with_front (39 ∷ [])) more ∙ ap (λ (c : ℕ). Some (c ∷ text, tail)) (sym (is_quote b q))
single_one b text tail false q more =
    ap (λ (v : Bool). single_quoted ((if v then 39 ∷ 39 ∷ doubled text else b ∷ doubled text) ++ 39 ∷ tail)) q
    ∙ ap (λ (v : Bool). if v then behind_quote (doubled text ++ 39 ∷ tail) else with_front (b ∷ []) (single_quoted (doubled text ++ 39 ∷ tail))) q
    ∙ ap (with_front (b ∷ [])) more

pub single_only : (text tail : List ℕ) → begins 39 tail ≡ false → single_quoted (doubled text ++ 39 ∷ tail) ≡ Some (text, tail)
single_only [] tail h = quote_closes tail h
single_only (b ∷ text) tail h = single_one b text tail (b == 39) refl (single_only text tail h)

apart : false ≡ true → ⊥
apart e = cc

not_empty : (n : ℕ) → (suc n == 0) ≡ false
not_empty n = grind (arith, nat_tests)

no_end : (tail : List ℕ) → is_line_end (39 ∷ tail) ≡ false
unfolding is_line_end spaces
no_end tail = ap (λ (v : Bool). v || false) (not_empty (length tail))

end_by : (b : ℕ) (tail : List ℕ) (quote : Bool) → (b == 39) ≡ quote → is_line_end (b ∷ tail) ≡ true → quote ≡ false
end_by b tail true q h = absurd (apart (sym (no_end tail) ∙ subst (λ (c : ℕ). is_line_end (c ∷ tail) ≡ true) (is_quote b q) h))
end_by b tail false q h = refl

-- a line's end begins with no quote
pub end_no_quote : (tail : List ℕ) → is_line_end tail ≡ true → begins 39 tail ≡ false
end_no_quote [] h = refl
end_no_quote (b ∷ tail) h = end_by b tail (b == 39) refl h

-- ---- double quotes

pub record Written (n : ℕ) (bytes text : List ℕ) : Type 0 where
  pub escapes : Escapes (take n bytes) text
  pub cut : bytes ≡ take n bytes ++ 34 ∷ drop (n + 1) bytes

one_more : (n : ℕ) → suc n ≡ n + 1
one_more n = omega arith

two_more : (n : ℕ) → suc (suc n) ≡ n + 2
two_more n = omega arith

past_one : (n : ℕ) → suc (n + 1) ≡ suc n + 1
past_one n = omega arith

past_two : (n : ℕ) → suc (suc (n + 1)) ≡ suc (suc n) + 1
past_two n = omega arith

lift_byte : (b m : ℕ) (bytes text : List ℕ) → (b == 34) ≡ false → (b == 92) ≡ false → Written m bytes text → Written (m + 1) (b ∷ bytes) (b ∷ text)
lift_byte b m bytes text q s w =
    subst (λ (n : ℕ). Written n (b ∷ bytes) (b ∷ text)) (one_more m) (record {
      escapes = grammar.byte b (take m bytes) text q s w.escapes;
      cut = ap (λ (u : List ℕ). b ∷ u) w.cut ∙ ap (λ (k : ℕ). b ∷ (take m bytes ++ 34 ∷ drop k (b ∷ bytes))) (past_one m);
    })

lift_escape : (b c m : ℕ) (bytes text : List ℕ) → escaped b ≡ Some c → Written m bytes text → Written (m + 2) (92 ∷ b ∷ bytes) (c ∷ text)
lift_escape b c m bytes text e w =
    subst (λ (n : ℕ). Written n (92 ∷ b ∷ bytes) (c ∷ text)) (two_more m) (record {
      escapes = grammar.escape b c (take m bytes) text e w.escapes;
      cut = ap (λ (u : List ℕ). 92 ∷ b ∷ u) w.cut ∙ ap (λ (k : ℕ). 92 ∷ b ∷ (take m bytes ++ 34 ∷ drop k (92 ∷ b ∷ bytes))) (past_two m);
    })

count_found : (found : Option ℕ) (k n : ℕ) → option_map (λ (m : ℕ). m + k) found ≡ Some n → (m : ℕ) × (found ≡ Some m) × (m + k ≡ n)
count_found None k n e = cc
count_found (Some m) k n e = (m, refl, (let z = e in cc))

pub or_found : (line : Line) (offset : ℕ) (found : Option ℕ) (next : ℕ → Result (List ℕ) YamlFault) (text : List ℕ) → or_bad line offset found next ≡ Ok text → (c : ℕ) × (found ≡ Some c) × (next c ≡ Ok text)
or_found line offset None next text e = cc
or_found line offset (Some c) next text e = (c, refl, e)

is_double : (b : ℕ) → (b == 34) ≡ true → b ≡ 34
is_double b h = grind (arith, nat_tests)

is_backslash : (b : ℕ) → (b == 92) ≡ true → b ≡ 92
is_backslash b h = grind (arith, nat_tests)

closes_here : (b : ℕ) (bytes : List ℕ) (line : Line) (offset n : ℕ) (text : List ℕ) → b ≡ 34 → 0 ≡ n → unescaped line offset (take n (b ∷ bytes)) ≡ Ok text → Written n (b ∷ bytes) text
closes_here b bytes line offset n text is zero_is u =
    let none : [] ≡ text = (let z : unescaped line offset (take 0 (b ∷ bytes)) ≡ Ok text = subst (λ (k : ℕ). unescaped line offset (take k (b ∷ bytes)) ≡ Ok text) (sym zero_is) u in cc) in
    subst (λ (k : ℕ). Written k (b ∷ bytes) text) zero_is (record {
      escapes = subst (λ (t : List ℕ). Escapes [] t) none grammar.end;
      cut = ap (λ (c : ℕ). c ∷ bytes) is;
    })

mutual
  pub double_found : (bytes : List ℕ) (n : ℕ) → double_quoted bytes ≡ Some n → (line : Line) (offset : ℕ) (text : List ℕ) → unescaped line offset (take n bytes) ≡ Ok text → Written n bytes text
  double_found [] n e line offset text u = cc
  double_found (b ∷ bytes) n e line offset text u =
      elim (chosen (b == 34) _ _ (Some n) e) [
        | inl q ↦ closes_here b bytes line offset n text (is_double b q.0) (let z = q.1 in cc) u
        | inr q ↦ elim (chosen (b == 92) _ _ (Some n) q.1) [
          | inl s ↦
              let is = is_backslash b s.0 in
              subst (λ (c : ℕ). Written n (c ∷ bytes) text) (sym is)
              (backslash_found bytes n s.1 line offset text (subst (λ (c : ℕ). unescaped line offset (take n (c ∷ bytes)) ≡ Ok text) is u))
          | inr s ↦
              let f = count_found (double_quoted bytes) 1 n s.1 in
              let v : unescaped line offset (b ∷ take f.0 bytes) ≡ Ok text = subst (λ (k : ℕ). unescaped line offset (take k (b ∷ bytes)) ≡ Ok text) (sym f.2 ∙ sym (one_more f.0)) u in
              let w : onto b (unescaped line (offset + 1) (take f.0 bytes)) ≡ Ok text =
              sym (ap (λ (t : Bool). if t then after_backslash line offset (take f.0 bytes) else onto b (unescaped line (offset + 1) (take f.0 bytes))) s.0) ∙ v in
              let r = bind_ok (unescaped line (offset + 1) (take f.0 bytes)) _ text w in
              let same : b ∷ r.0 ≡ text = (let z = r.2 in cc) in
              subst (λ (k : ℕ). Written k (b ∷ bytes) text) f.2
              (subst (λ (t : List ℕ). Written (f.0 + 1) (b ∷ bytes) t) same
              (lift_byte b f.0 bytes r.0 q.0 s.0 (double_found bytes f.0 f.1 line (offset + 1) r.0 r.1)))
        ]
      ]

  backslash_found : (bytes : List ℕ) (n : ℕ) → behind_backslash bytes ≡ Some n → (line : Line) (offset : ℕ) (text : List ℕ) → unescaped line offset (take n (92 ∷ bytes)) ≡ Ok text → Written n (92 ∷ bytes) text
  backslash_found [] n e line offset text u = cc
  backslash_found (b ∷ bytes) n e line offset text u =
      let f = count_found (double_quoted bytes) 2 n e in
      let v : unescaped line offset (92 ∷ b ∷ take f.0 bytes) ≡ Ok text = subst (λ (k : ℕ). unescaped line offset (take k (92 ∷ b ∷ bytes)) ≡ Ok text) (sym f.2 ∙ sym (two_more f.0)) u in
      let o = or_found line offset (escaped b) (λ c. onto c (unescaped line (offset + 2) (take f.0 bytes))) text v in
      let r = bind_ok (unescaped line (offset + 2) (take f.0 bytes)) _ text o.2 in
      let same : o.0 ∷ r.0 ≡ text = (let z = r.2 in cc) in
      subst (λ (k : ℕ). Written k (92 ∷ b ∷ bytes) text) f.2
      (subst (λ (t : List ℕ). Written (f.0 + 2) (92 ∷ b ∷ bytes) t) same
      (lift_escape b o.0 f.0 bytes r.0 o.1 (double_found bytes f.0 f.1 line (offset + 2) r.0 r.1)))

pub double_closes : {written text : List ℕ} → Escapes written text → (after : List ℕ) → double_quoted (written ++ 34 ∷ after) ≡ Some (length written)
double_closes grammar.end after = refl
double_closes (grammar.byte b written text q s more) after =
    ap (λ (t : Bool). if t then Some 0 else if b == 92 then behind_backslash (written ++ 34 ∷ after) else option_map (λ n. n + 1) (double_quoted (written ++ 34 ∷ after))) q
    ∙ ap (λ (t : Bool). if t then behind_backslash (written ++ 34 ∷ after) else option_map (λ n. n + 1) (double_quoted (written ++ 34 ∷ after))) s
    ∙ ap (option_map (λ n. n + 1)) (double_closes more after) ∙ ap (λ (n : ℕ). Some n) (sym (one_more (length written)))
double_closes (grammar.escape b c written text e more) after =
    ap (option_map (λ n. n + 2)) (double_closes more after) ∙ ap (λ (n : ℕ). Some n) (sym (two_more (length written)))

pub unescaped_only : {written text : List ℕ} → Escapes written text → (line : Line) (offset : ℕ) → unescaped line offset written ≡ Ok text
unescaped_only grammar.end line offset = refl
unescaped_only (grammar.byte b written text q s more) line offset =
    ap (λ (t : Bool). if t then after_backslash line offset written else onto b (unescaped line (offset + 1) written)) s
    ∙ ap (onto b) (unescaped_only more line (offset + 1))
unescaped_only (grammar.escape b c written text e more) line offset =
    ap (λ (found : Option ℕ). or_bad line offset found (λ d. onto d (unescaped line (offset + 2) written))) e
    ∙ ap (onto c) (unescaped_only more line (offset + 2))

-- the closing quote stands where it is found
mutual
  pub double_cut : (bytes : List ℕ) (n : ℕ) → double_quoted bytes ≡ Some n → bytes ≡ take n bytes ++ 34 ∷ drop (n + 1) bytes
  double_cut [] n e = cc
  double_cut (b ∷ bytes) n e =
      elim (chosen (b == 34) _ _ (Some n) e) [
        | inl q ↦
            let zero_is : 0 ≡ n = (let z = q.1 in cc) in
            subst (λ (k : ℕ). b ∷ bytes ≡ take k (b ∷ bytes) ++ 34 ∷ drop (k + 1) (b ∷ bytes)) zero_is (ap (λ (c : ℕ). c ∷ bytes) (is_double b q.0))
        | inr q ↦ elim (chosen (b == 92) _ _ (Some n) q.1) [
          | inl s ↦
              subst (λ (c : ℕ). c ∷ bytes ≡ take n (c ∷ bytes) ++ 34 ∷ drop (n + 1) (c ∷ bytes)) (sym (is_backslash b s.0)) (backslash_cut bytes n s.1)
          | inr s ↦
              let f = count_found (double_quoted bytes) 1 n s.1 in
              subst (λ (k : ℕ). b ∷ bytes ≡ take k (b ∷ bytes) ++ 34 ∷ drop (k + 1) (b ∷ bytes)) (one_more f.0 ∙ f.2)
              (ap (λ (u : List ℕ). b ∷ u) (double_cut bytes f.0 f.1) ∙ ap (λ (k : ℕ). b ∷ (take f.0 bytes ++ 34 ∷ drop k (b ∷ bytes))) (past_one f.0))
        ]
      ]

  backslash_cut : (bytes : List ℕ) (n : ℕ) → behind_backslash bytes ≡ Some n → 92 ∷ bytes ≡ take n (92 ∷ bytes) ++ 34 ∷ drop (n + 1) (92 ∷ bytes)
  backslash_cut [] n e = cc
  backslash_cut (b ∷ bytes) n e =
      let f = count_found (double_quoted bytes) 2 n e in
      subst (λ (k : ℕ). 92 ∷ b ∷ bytes ≡ take k (92 ∷ b ∷ bytes) ++ 34 ∷ drop (k + 1) (92 ∷ b ∷ bytes)) (two_more f.0 ∙ f.2)
      (ap (λ (u : List ℕ). 92 ∷ b ∷ u) (double_cut bytes f.0 f.1) ∙ ap (λ (k : ℕ). 92 ∷ b ∷ (take f.0 bytes ++ 34 ∷ drop k (92 ∷ b ∷ bytes))) (past_two f.0))
