use Rattle.std.proofs.Common.{◌≡◌, ℕ, ◌+◌, List, ◌++◌, length}
use denote.Text.{Utf8}
use denote.Shadow.{shadow}
use Rattle.ps_sql.specs.declared.words.Lexeme.{Lexeme}
use Rattle.ps_sql.specs.Lexemes.{AreLexemes, Stops}
use Rattle.ps_sql.proofs.lexemes.lexemes.Given as goal

-- what is read stands before whatever the rest is
abbrev pub invariant-words : goal.invariant-words
invariant-words l = record {
  utf8 : shadow (Utf8 l.rest);
  place : l.at + length l.rest ≡ length l.text;
  found : (more : List Lexeme) → AreLexemes l.at l.rest more → AreLexemes 0 l.text (l.lexemes ++ more);
  stops : (place : ℕ) → Stops l.at l.rest place → Stops 0 l.text place;
}

abbrev pub decreases-words : goal.decreases-words
decreases-words l = length l.rest
