-- What a call answers, out of memory aside.
use Rattle.std.specs.Prelude.{◌≡◌, ℕ, List, length, Result, Ok, Err, OnOk}
use Rattle.ps_sql.specs.declared.faults.SqlFault.{SqlFault}
use Rattle.ps_sql.specs.declared.faults.SqlFault.TheVariants as faults
use Rattle.ps_sql.specs.declared.words.Lexeme.{Lexeme}
use Rattle.ps_sql.specs.declared.words.Token.{Token}
use Rattle.ps_sql.specs.Inputs.{Input}
use Rattle.ps_sql.specs.Lexemes.{AreLexemes, AreTokens, Stops}

-- a result is what is meant, or memory ran out
abbrev pub Reads : {X : Type 0} → Result X SqlFault → Result X SqlFault → Type 0
Reads (Ok x) meant = meant ≡ Ok x
Reads (Err faults.Memory) meant = Unit {0}
Reads (Err (faults.BadToken at)) meant = meant ≡ Err (faults.BadToken at)
Reads (Err (faults.Unexpected at)) meant = meant ≡ Err (faults.Unexpected at)
Reads (Err (faults.Unsupported at)) meant = meant ≡ Err (faults.Unsupported at)

-- lexemes, or the first place where none begins
abbrev pub AnswersLexemes : List ℕ → Result (List Lexeme) SqlFault → Type 0
AnswersLexemes text (Ok lexemes) = AreLexemes 0 text lexemes
AnswersLexemes text (Err (faults.BadToken at)) = Stops 0 text at
AnswersLexemes text (Err faults.Memory) = Unit {0}
AnswersLexemes text (Err (faults.Unexpected at)) = ⊥
AnswersLexemes text (Err (faults.Unsupported at)) = ⊥

-- tokens, or the first place where none begins
abbrev pub AnswersTokens : List ℕ → Result (List Token) SqlFault → Type 0
AnswersTokens text (Ok tokens) = AreTokens text tokens
AnswersTokens text (Err (faults.BadToken at)) = Stops 0 text at
AnswersTokens text (Err faults.Memory) = Unit {0}
AnswersTokens text (Err (faults.Unexpected at)) = ⊥
AnswersTokens text (Err (faults.Unsupported at)) = ⊥

-- a fault is what is meant, or memory ran out
abbrev pub Fails : {Y : Type 0} → SqlFault → Result Y SqlFault → Type 0
Fails faults.Memory meant = Unit {0}
Fails (faults.BadToken at) meant = meant ≡ Err (faults.BadToken at)
Fails (faults.Unexpected at) meant = meant ≡ Err (faults.Unexpected at)
Fails (faults.Unsupported at) meant = meant ≡ Err (faults.Unsupported at)

-- what a step read, and what it left to read
abbrev pub ReadsOn : {X : Type 0} → Result X SqlFault → Input → Result (X × Input) SqlFault → Type 0
ReadsOn (Ok x) rest meant = meant ≡ Ok (x, rest)
ReadsOn (Err fault) rest meant = Fails fault meant

abbrev pub StepsOn : Result (Unit {0}) SqlFault → Input → Result Input SqlFault → Type 0
StepsOn (Ok _) rest meant = meant ≡ Ok rest
StepsOn (Err fault) rest meant = Fails fault meant

-- the words of a text, before any is read
abbrev pub input_of : List ℕ → List Lexeme → Input
input_of text lexemes = record { left = lexemes; end = length text }

-- a bad token is answered where the reading of the lexemes stops
abbrev pub StopsAtToken : {X : Type 0} → List ℕ → Result X SqlFault → Type 0
StopsAtToken text (Ok x) = Unit {0}
StopsAtToken text (Err (faults.BadToken at)) = Stops 0 text at
StopsAtToken text (Err (faults.Unexpected at)) = Unit {0}
StopsAtToken text (Err (faults.Unsupported at)) = Unit {0}
StopsAtToken text (Err faults.Memory) = Unit {0}

-- a query is read from the lexemes of its text, or the text has a place where none begins
pub record AnswersQuery {X : Type 0} (read : ℕ → Input → Result X SqlFault) (text : List ℕ) (answer : Result X SqlFault) : Type 0 where
  pub read_from : OnOk answer ((lexemes : List Lexeme) × AreLexemes 0 text lexemes)
  pub words : (lexemes : List Lexeme) → AreLexemes 0 text lexemes → Reads answer (read (length lexemes) (input_of text lexemes))
  pub bad : (at : ℕ) → Stops 0 text at → Reads answer (Err (faults.BadToken at))
  pub token : StopsAtToken text answer
