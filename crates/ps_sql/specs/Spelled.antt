-- The grammar of expressions: which lexemes spell which expression in a query.
use Rattle.std.specs.Prelude.{◌≡◌, pos, Bool, true, false, ◌&&◌, ◌||◌, List, [], ◌∷◌, ◌++◌, length, Some, bytes_eq, codes}
use Rattle.ps_sql.specs.declared.words.Word.{Word}
use Rattle.ps_sql.specs.declared.words.Word.TheVariants as words
use Rattle.ps_sql.specs.declared.words.Keyword.TheVariants as keywords
use Rattle.ps_sql.specs.declared.words.Mark.TheVariants as marks
use Rattle.ps_sql.specs.declared.words.Lexeme.{Lexeme}
use Rattle.ps_queries.specs.declared.expressions.Expr.{Expr}
use Rattle.ps_queries.specs.declared.expressions.Expr.TheVariants as exprs
use Rattle.ps_queries.specs.declared.expressions.Operator.{Operator}
use Rattle.ps_queries.specs.declared.expressions.Operator.TheVariants as operators
use Rattle.ps_queries.specs.declared.expressions.Function.{Function}
use Rattle.ps_sql.specs.declared.contexts.Context.{Context}
use Rattle.ps_sql.specs.declared.contexts.Level.{Level}
use Rattle.ps_sql.specs.declared.contexts.Level.TheVariants as levels
use Rattle.ps_sql.specs.Words.{same_word}
use Rattle.ps_sql.specs.Inputs.{name_in}
use Rattle.ps_sql.specs.Grammar.{allows_column, allows_qualifier, request_value, function_of, arity, opposite}

-- how an operator is written
abbrev pub sign_of : Operator → Word
sign_of operators.Or = words.Keyword keywords.Or
sign_of operators.And = words.Keyword keywords.And
sign_of operators.Equal = words.Mark marks.Equal
sign_of operators.NotEqual = words.Mark marks.NotEqual
sign_of operators.Less = words.Mark marks.Less
sign_of operators.LessEqual = words.Mark marks.LessEqual
sign_of operators.Greater = words.Mark marks.Greater
sign_of operators.GreaterEqual = words.Mark marks.GreaterEqual
sign_of operators.Within = words.Keyword keywords.In
sign_of operators.Join = words.Mark marks.Join
sign_of operators.Arrow = words.Mark marks.Arrow
sign_of operators.DoubleArrow = words.Mark marks.DoubleArrow

-- and how close it binds
abbrev pub level_of : Operator → Level
level_of operators.Or = levels.Or
level_of operators.And = levels.And
level_of operators.Equal = levels.Same
level_of operators.NotEqual = levels.Same
level_of operators.Less = levels.Order
level_of operators.LessEqual = levels.Order
level_of operators.Greater = levels.Order
level_of operators.GreaterEqual = levels.Order
level_of operators.Within = levels.Same
level_of operators.Join = levels.Joining
level_of operators.Arrow = levels.Joining
level_of operators.DoubleArrow = levels.Joining

-- a rule of the grammar: the operators of a level, NOT, or what stands between all operators
pub data Rule : Type 0 where
  level : Level → Rule
  negation : Rule
  primary : Rule

-- a whole expression
abbrev pub expression : Rule
expression = level levels.Or

-- what stands between the operators of a level
abbrev pub side : Level → Rule
side levels.Or = level levels.And
side levels.And = negation
side levels.Same = level levels.Order
side levels.Order = level levels.Joining
side levels.Joining = primary

-- `bucket.name` is never a column, nor is `token_parameters.user_id`
abbrev pub is_taken : Word → Word → Bool
is_taken (words.Name qualifier) (words.Name name) = bytes_eq qualifier (codes "bucket") || (bytes_eq qualifier (codes "token_parameters") && bytes_eq name (codes "user_id"))
is_taken (words.Name qualifier) (words.Quoted name) = bytes_eq qualifier (codes "bucket")
is_taken _ _ = false

mutual
  pub data Spells (context : Context) : Rule → List Lexeme → Expr → Type 0 where
    -- operators of a level group to the left
    alone : {at : Level} {xs : List Lexeme} {e : Expr} → Spells context (side at) xs e → Spells context (level at) xs e
    between : {xs ys : List Lexeme} {left right : Expr} (operator : Operator) (sign : Lexeme) → Spells context (level (level_of operator)) xs left
        → sign.word ≡ sign_of operator → Spells context (side (level_of operator)) ys right → Spells context (level (level_of operator)) (xs ++ sign ∷ ys) (exprs.Two operator left right)
    is_null : {xs : List Lexeme} {e : Expr} (is last : Lexeme) → Spells context (level levels.Same) xs e
        → is.word ≡ words.Keyword keywords.Is → last.word ≡ words.Keyword keywords.Null → Spells context (level levels.Same) (xs ++ is ∷ last ∷ []) (exprs.IsNull e false)
    is_not_null : {xs : List Lexeme} {e : Expr} (is second last : Lexeme) → Spells context (level levels.Same) xs e
        → is.word ≡ words.Keyword keywords.Is → second.word ≡ words.Keyword keywords.Not → last.word ≡ words.Keyword keywords.Null
        → Spells context (level levels.Same) (xs ++ is ∷ second ∷ last ∷ []) (exprs.IsNull e true)
    -- NOT
    not_negated : {xs : List Lexeme} {e : Expr} → Spells context (level levels.Same) xs e → Spells context negation xs e
    negated : {xs : List Lexeme} {e : Expr} (first : Lexeme) → first.word ≡ words.Keyword keywords.Not → Spells context negation xs e → Spells context negation (first ∷ xs) (exprs.Not e)
    -- values
    number : (x : Lexeme) {n : _} → x.word ≡ words.Number n → Spells context primary (x ∷ []) (exprs.Number n)
    negative : (minus x : Lexeme) {n : _} → minus.word ≡ words.Mark marks.Minus → x.word ≡ words.Number n → Spells context primary (minus ∷ x ∷ []) (exprs.Number (opposite n))
    text : (x : Lexeme) {t : _} → x.word ≡ words.Text t → Spells context primary (x ∷ []) (exprs.Text t)
    null : (x : Lexeme) → x.word ≡ words.Keyword keywords.Null → Spells context primary (x ∷ []) exprs.Null
    true_word : (x : Lexeme) → x.word ≡ words.Keyword keywords.True → Spells context primary (x ∷ []) (exprs.Number (pos 1))
    false_word : (x : Lexeme) → x.word ≡ words.Keyword keywords.False → Spells context primary (x ∷ []) (exprs.Number (pos 0))
    -- columns, and parameters of the bucket
    column : (x : Lexeme) {name : _} → name_in x.word ≡ Some name → allows_column context.scope ≡ true → Spells context primary (x ∷ []) (exprs.Column name)
    qualified : (q dot x : Lexeme) {qualifier name : _} → name_in q.word ≡ Some qualifier → dot.word ≡ words.Mark marks.Dot → name_in x.word ≡ Some name
        → is_taken q.word x.word ≡ false → allows_qualifier context.scope qualifier ≡ true → Spells context primary (q ∷ dot ∷ x ∷ []) (exprs.Column name)
    bucket : (q dot x : Lexeme) {name : _} → q.word ≡ words.Name (codes "bucket") → dot.word ≡ words.Mark marks.Dot → name_in x.word ≡ Some name
        → context.is_data ≡ true → Spells context primary (q ∷ dot ∷ x ∷ []) (exprs.Bucket name)
    -- the asker's values
    request : (q dot x opening closing : Lexeme) {f : _} {value : Expr} → q.word ≡ words.Name (codes "request") → dot.word ≡ words.Mark marks.Dot → x.word ≡ words.Name f
        → request_value f ≡ Some value → opening.word ≡ words.Mark marks.Open → closing.word ≡ words.Mark marks.Close → context.is_data ≡ false
        → Spells context primary (q ∷ dot ∷ x ∷ opening ∷ closing ∷ []) value
    token_user : (q dot x : Lexeme) → q.word ≡ words.Name (codes "token_parameters") → dot.word ≡ words.Mark marks.Dot → x.word ≡ words.Name (codes "user_id")
        → context.is_data ≡ false → Spells context primary (q ∷ dot ∷ x ∷ []) exprs.UserId
    -- functions, CAST and brackets
    call : (x opening closing : Lexeme) {f : _} {function : Function} {xs : List Lexeme} {es : List Expr} → x.word ≡ words.Name f → function_of f ≡ Some function
        → opening.word ≡ words.Mark marks.Open → AreArguments context xs es → length es ≡ arity function → closing.word ≡ words.Mark marks.Close
        → Spells context primary (x ∷ opening ∷ (xs ++ closing ∷ [])) (exprs.Call function es)
    cast : (x opening behind type closing : Lexeme) {xs : List Lexeme} {e : Expr} {t : _} → x.word ≡ words.Keyword keywords.Cast → opening.word ≡ words.Mark marks.Open
        → Spells context expression xs e → behind.word ≡ words.Keyword keywords.As → type.word ≡ words.Name t → same_word t (codes "TEXT") ≡ true → closing.word ≡ words.Mark marks.Close
        → Spells context primary (x ∷ opening ∷ (xs ++ behind ∷ type ∷ closing ∷ [])) (exprs.CastText e)
    brackets : (opening closing : Lexeme) {xs : List Lexeme} {e : Expr} → opening.word ≡ words.Mark marks.Open → Spells context expression xs e → closing.word ≡ words.Mark marks.Close
        → Spells context primary (opening ∷ (xs ++ closing ∷ [])) e

  -- expressions with commas between them
  pub data AreArguments (context : Context) : List Lexeme → List Expr → Type 0 where
    first : {xs : List Lexeme} {e : Expr} → Spells context expression xs e → AreArguments context xs (e ∷ [])
    further : {xs ys : List Lexeme} {es : List Expr} {e : Expr} (comma : Lexeme) → AreArguments context xs es → comma.word ≡ words.Mark marks.Comma
        → Spells context expression ys e → AreArguments context (xs ++ comma ∷ ys) (es ++ e ∷ [])
