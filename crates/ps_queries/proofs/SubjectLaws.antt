-- The value of an expression goes by what it speaks of.
use Rattle.std.proofs.lemmas.List.{drop_more}
use Rattle.std.proofs.Common.{◌+◌, ◌<◌, length, drop, get_or, ◌≡◌, ℕ, Bool, true, false, List, [], ◌∷◌, map, refl, sym, ap, ◌∙◌, subst}
use Rattle.std.specs.Prelude.{◌||◌, not, if◌then◌else◌}
use Rattle.ps_data.specs.Values.{is_null, truth_of}
use Rattle.ps_data.specs.declared.values.Value.{Value}
use Rattle.ps_data.specs.declared.values.Value.TheVariants as values
use Rattle.ps_queries.specs.declared.expressions.Expr.{Expr, fold-roll-Expr, ind-Expr, map-Expr}
use Rattle.ps_queries.specs.declared.expressions.Expr.TheOpen.{Expr-F}
use Rattle.ps_queries.specs.declared.expressions.Expr.TheOpen as layers
use Rattle.ps_queries.specs.declared.subjects.Subject.{Subject}
use Rattle.ps_queries.specs.declared.subjects.Subject.TheVariants as subjects
use Rattle.ps_queries.specs.Meaning.{Given, layer_value, value_of, column_value, call_value, two_value, text_of, text_value, truth_value, opposite_truth, bool_value}
use Rattle.ps_queries.specs.Subjects.{any_true, layer_speaks, speaks, is_asker, is_bucket, is_row, IsSameForEveryAsker, IsSameForEveryBucket, IsSameOnEveryRow}

left : (a b : Bool) → (a || b) ≡ false → a ≡ false
left false b h = refl
left true b h = h

right : (a b : Bool) → (a || b) ≡ false → b ≡ false
right false b h = h
right true b h = absurd (cc)

-- several expressions, one on
pub any_more : (subject : Subject) (all : Bool) (xs : List Expr) (i : ℕ) (x : Expr) (here : Bool) → all ≡ any_true (map (speaks subject) (drop i xs)) → i < length xs → x ≡ get_or xs i x → speaks subject x ≡ here
    → all ≡ (here || any_true (map (speaks subject) (drop (i + 1) xs)))
any_more subject all xs i x here before within is e =
    before ∙ ap (λ es. any_true (map (speaks subject) es)) (drop_more xs i x within ∙ ap (λ y. y ∷ drop (i + 1) xs) (sym is))
    ∙ ap (λ b. b || any_true (map (speaks subject) (drop (i + 1) xs))) e

-- both give the same but for the subject
module _ (subject : Subject) (given other : Given) (same_asker : is_asker subject ≡ false → given.asker ≡ other.asker)
    (same_bucket : is_bucket subject ≡ false → (name : List ℕ) → given.bucket name ≡ other.bucket name)
    (same_row : is_row subject ≡ false → (name : List ℕ) → column_value given.id given.row name ≡ column_value other.id other.row name) where
  abbrev Agrees : Expr → Type 0
  Agrees expr = speaks subject expr ≡ false → value_of given expr ≡ value_of other expr

  -- an expression of which this is known
  abbrev Known : Type 0
  Known = (expr : Expr) × Agrees expr

  abbrev LayerAgrees : Expr-F Expr → Type 0
  LayerAgrees layer = layer_speaks subject (map-Expr Expr Bool (speaks subject) layer) ≡ false
      → layer_value given (map-Expr Expr Value (value_of given) layer) ≡ layer_value other (map-Expr Expr Value (value_of other) layer)

  all_agree : (es : List Known) → any_true (map (speaks subject) (map (λ e. e.0) es)) ≡ false → map (value_of given) (map (λ e. e.0) es) ≡ map (value_of other) (map (λ e. e.0) es)
  all_agree [] h = refl
  all_agree (e ∷ es) h =
      let rest = any_true (map (speaks subject) (map (λ x. x.0) es)) in
      let first : value_of given e.0 ≡ value_of other e.0 = e.1 (left (speaks subject e.0) rest h) in
      let later = all_agree es (right (speaks subject e.0) rest h) in
      ap (λ v. v ∷ map (value_of given) (map (λ x. x.0) es)) first ∙ ap (λ vs. value_of other e.0 ∷ vs) later

  layer_agrees : (known : Expr-F Known) → LayerAgrees (map-Expr Known Expr (λ e. e.0) known)
  layer_agrees layers.Null h = refl
  layer_agrees (layers.Number n) h = refl
  layer_agrees (layers.Text t) h = refl
  layer_agrees (layers.Column name) h = same_row h name
  layer_agrees (layers.Bucket name) h = same_bucket h name
  layer_agrees layers.UserId h = ap (λ asker. values.Text asker.user) (same_asker h)
  layer_agrees layers.Jwt h = ap (λ asker. values.Text asker.payload) (same_asker h)
  layer_agrees layers.Parameters h = ap (λ asker. values.Text asker.parameters) (same_asker h)
  layer_agrees (layers.Call function arguments) h = ap (call_value function) (all_agree arguments h)
  layer_agrees (layers.CastText of) h = ap (λ v. text_value (text_of v)) (of.1 h)
  layer_agrees (layers.Not of) h = ap (λ v. truth_value (opposite_truth (truth_of v))) (of.1 h)
  layer_agrees (layers.IsNull of negated) h = ap (λ v. bool_value (if negated then not (is_null v) else is_null v)) (of.1 h)
  layer_agrees (layers.Two operator a b) h =
      ap (λ v. two_value operator v (value_of given b.0)) (a.1 (left (speaks subject a.0) (speaks subject b.0) h))
      ∙ ap (two_value operator (value_of other a.0)) (b.1 (right (speaks subject a.0) (speaks subject b.0) h))

  agree : (expr : Expr) → Agrees expr
  agree = ind-Expr Agrees (λ x y is h.
      fold-roll-Expr Value (layer_value given) x
      ∙ subst LayerAgrees is (layer_agrees y) (sym (fold-roll-Expr Bool (layer_speaks subject) x) ∙ h)
      ∙ sym (fold-roll-Expr Value (layer_value other) x))

pub whoever_asks : IsSameForEveryAsker
whoever_asks expr given other h =
    agree subjects.Asker given (record { asker = other; id = given.id; row = given.row; bucket = given.bucket }) (λ e. absurd (cc)) (λ e name. refl) (λ e name. refl) expr h

pub whatever_the_bucket : IsSameForEveryBucket
whatever_the_bucket expr given other h =
    agree subjects.Bucket given (record { asker = given.asker; id = given.id; row = given.row; bucket = other }) (λ e. refl) (λ e name. absurd (cc)) (λ e name. refl) expr h

pub whatever_the_row : IsSameOnEveryRow
whatever_the_row expr given id row h =
    agree subjects.Row given (record { asker = given.asker; id = id; row = row; bucket = given.bucket }) (λ e. refl) (λ e name. refl) (λ e name. absurd (cc)) expr h
