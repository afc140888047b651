use Rattle.std.proofs.Common.{◌≡◌, ℕ, ◌+◌, ◌<◌, true, false, get_or, List, [], ◌∷◌, ◌++◌, length, Some, rules, subst, sym, ◌∙◌, arith, append-nil, append_assoc}
use Rattle.std.proofs.lemmas.Grind.{common_steps}
use Rattle.ps_sql.specs.declared.words.Lexeme.{Lexeme}
use Rattle.ps_sql.specs.declared.words.Word.{Word}
use Rattle.ps_sql.specs.Words.{word_at, is_space}
use Rattle.ps_sql.specs.Lexemes.{AreLexemes, Stops}
use Rattle.ps_sql.proofs.Cuts.{word_cuts}
use Rattle.ps_sql.proofs.LexemeLaws.{blank_lexemes, blank_stops, word_lexemes, word_stops, stops_here, all_read}
use Rattle.ps_sql.proofs.lexemes.lexemes.Goals as goal

pub words-preserved-then-is_blank_byte : goal.words-preserved-then-is_blank_byte
words-preserved-then-is_blank_byte c =
    let at = c.words.at in let rest = c.words.rest.now in
    let L : List Lexeme → List ℕ → Type 0 = λ more bytes. AreLexemes (at + 1) bytes more in
    let S : ℕ → List ℕ → Type 0 = λ place bytes. Stops (at + 1) bytes place in
    let blank : is_space (get_or rest 0 0) ≡ true = grind (arith, common_steps) in
    record {
      utf8 = search rules;
      place = omega (arith, c.cut.ensures.parts);
      found = λ more is. c.words.invariant.found more (blank_lexemes at rest more blank (subst (L more) c.cut.ensures.back is));
      stops = λ place is. c.words.invariant.stops place (blank_stops at rest place blank (subst (S place) c.cut.ensures.back is));
    }

pub returns-in_default : goal.returns-in_default
returns-in_default c =
    let rest = c.words.rest.now in
    let some : 0 < length rest = grind (arith, common_steps) in
    let blank : is_space (get_or rest 0 0) ≡ false = grind (arith, common_steps) in
    c.words.invariant.stops c.words.at (stops_here c.words.at rest some blank (sym c.in_ok-word.ensures ∙ c.in_default.is))

pub cut-requires-in-words : goal.cut-requires-in-words
cut-requires-in-words c = word_cuts c.words.rest.now (c.in-Some.word, c.in-Some.count) (sym c.in_ok-word.ensures ∙ c.in-Some.is)

pub words-smaller : goal.words-smaller
words-smaller c =
    let cuts = word_cuts c.words.rest.now (c.in-Some.word, c.in-Some.count) (sym c.in_ok-word.ensures ∙ c.in-Some.is) in
    omega (arith, cuts.some, c.cut-in-words.ensures.parts)

pub words-preserved : goal.words-preserved
words-preserved c =
    let at = c.words.at in let rest = c.words.rest.now in
    let found : Word × ℕ = (c.in-Some.word, c.in-Some.count) in
    let read : word_at rest ≡ Some found = sym c.in_ok-word.ensures ∙ c.in-Some.is in
    let lexeme : Lexeme = record { word = found.0; from = at; upto = at + found.1 } in
    let L : List Lexeme → List ℕ → Type 0 = λ more bytes. AreLexemes (at + found.1) bytes more in
    let S : ℕ → List ℕ → Type 0 = λ place bytes. Stops (at + found.1) bytes place in
    let All : List Lexeme → Type 0 = λ xs. AreLexemes 0 c.args.text.now xs in
    record {
      utf8 = search rules;
      place = omega (arith, c.cut-in-words.ensures.parts);
      found = λ more is.
          let whole = c.words.invariant.found (lexeme ∷ more) (word_lexemes at rest found more read (subst (L more) c.cut-in-words.ensures.back is)) in
          let same : c.words.lexemes ++ lexeme ∷ more ≡ c.push.new.self ++ more = rw c.in_ok-push.ensures.ok (sym (append_assoc c.words.lexemes (lexeme ∷ []) more)) in
          subst All same whole;
      stops = λ place is. c.words.invariant.stops place (word_stops at rest found place read (subst (S place) c.cut-in-words.ensures.back is));
    }

pub returns : goal.returns
returns c =
    let F : List Lexeme → Type 0 = λ xs. AreLexemes 0 c.args.text.now xs in
    let none : length c.words.rest.now ≡ 0 = grind (arith, common_steps) in
    subst F (append-nil c.words.lexemes) (c.words.invariant.found [] (all_read c.words.at c.words.rest.now none))
