use Rattle.std.proofs.Common.{◌≡◌, map, take}
use Rattle.ps_sql.specs.Lexemes.{token_of}
use Rattle.ps_sql.proofs.lexemes.tokens_of.Given as goal

abbrev pub invariant-tokens : goal.invariant-tokens
invariant-tokens l = l.tokens ≡ map token_of (take l.lexeme-index l.lexemes)
