-- How each word is written, and what may follow it: a word goes on as far as it can.
use Rattle.std.specs.Prelude.{◌≡◌, ℕ, pos, ◌<◌, ◌≤◌, Bool, true, false, not, ◌||◌, ◌==◌, if◌then◌else◌, List, [], ◌∷◌, ◌++◌, length, slice_index, Some, None, codes, ◌⊎◌}
use Rattle.std.specs.List.{list_all}
use Rattle.ps_sql.specs.declared.words.Word.{Word}
use Rattle.ps_sql.specs.declared.words.Word.TheVariants as words
use Rattle.ps_sql.specs.declared.words.Mark.{Mark}
use Rattle.ps_sql.specs.declared.words.Mark.TheVariants as marks
use Rattle.ps_data.specs.Numbers.{greatest}
use Rattle.ps_sql.specs.Words.{begins_name, continues_name, is_digit, decimal_after, ends_number, keyword_of}

-- a letter or `_`, then letters, digits and `_`, as many as there are
pub record IsName (written after : List ℕ) : Type 0 where
  pub begins : begins_name (slice_index written 0) ≡ true
  pub each : list_all continues_name written ≡ true
  pub ends : continues_name (slice_index after 0) ≡ false

-- digits, as many as there are, with no letter, no `_` and no `.` and digit behind them
pub record IsNumber (written after : List ℕ) : Type 0 where
  pub some : 0 < length written
  pub each : list_all is_digit written ≡ true
  pub small : decimal_after 0 written ≤ greatest
  pub whole : is_digit (slice_index after 0) ≡ false
  pub ends : ends_number after ≡ true

-- a text between quotes, each quote within it written twice
abbrev pub doubled : ℕ → List ℕ → List ℕ
doubled quote [] = []
doubled quote (b ∷ text) = if b == quote then quote ∷ quote ∷ doubled quote text else b ∷ doubled quote text

pub record IsQuoted (quote : ℕ) (text written after : List ℕ) : Type 0 where
  pub between : written ≡ quote ∷ (doubled quote text ++ quote ∷ [])
  pub ends : (slice_index after 0 == quote) ≡ false

abbrev pub IsMark : Mark → List ℕ → Type 0
IsMark marks.Open written = written ≡ codes "("
IsMark marks.Close written = written ≡ codes ")"
IsMark marks.Comma written = written ≡ codes ","
IsMark marks.Dot written = written ≡ codes "."
IsMark marks.Semicolon written = written ≡ codes ";"
IsMark marks.Star written = written ≡ codes "*"
IsMark marks.Plus written = written ≡ codes "+"
IsMark marks.Minus written = written ≡ codes "-"
IsMark marks.Slash written = written ≡ codes "/"
IsMark marks.Percent written = written ≡ codes "%"
IsMark marks.Equal written = written ≡ codes "="
IsMark marks.NotEqual written = (written ≡ codes "!=") ⊎ (written ≡ codes "<>")
IsMark marks.Less written = written ≡ codes "<"
IsMark marks.LessEqual written = written ≡ codes "<="
IsMark marks.Greater written = written ≡ codes ">"
IsMark marks.GreaterEqual written = written ≡ codes ">="
IsMark marks.Join written = written ≡ codes "||"
IsMark marks.Arrow written = written ≡ codes "->"
IsMark marks.DoubleArrow written = written ≡ codes "->>"

-- a mark ends where the next byte makes no longer one: `-` before `>`, `->` before `>`, `<` before `=` and `>`, `>` before `=` go on
abbrev pub ends_mark : Mark → ℕ → Bool
ends_mark marks.Minus next = not (next == 62)
ends_mark marks.Arrow next = not (next == 62)
ends_mark marks.Less next = not (next == 61 || next == 62)
ends_mark marks.Greater next = not (next == 61)
ends_mark _ next = true

-- the word is written so before what follows
abbrev pub IsWord : Word → List ℕ → List ℕ → Type 0
IsWord (words.Keyword k) written after = IsName written after × (keyword_of written ≡ Some k)
IsWord (words.Name name) written after = IsName written after × (keyword_of written ≡ None) × (name ≡ written)
IsWord (words.Quoted name) written after = IsQuoted 34 name written after
IsWord (words.Text text) written after = IsQuoted 39 text written after
IsWord (words.Number n) written after = IsNumber written after × (n ≡ pos (decimal_after 0 written))
IsWord (words.Mark m) written after = IsMark m written × (ends_mark m (slice_index after 0) ≡ true)
