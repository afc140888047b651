-- One more value of those that are in a set.
use Rattle.std.proofs.Common.{◌≡◌, true, false, List, [], ◌∷◌, ◌++◌, sym, ap, ◌∙◌, append_assoc}
use Rattle.std.specs.List.{list_any}
use Rattle.std.specs.BTreeMap.{is_at}
use Rattle.std.proofs.lemmas.Bool.{cond-true, cond-false}
use Rattle.ps_data.specs.declared.values.Value.{Value}
use Rattle.ps_data.specs.Values.{compare_values}
use Rattle.ps_bucket_eval.specs.Solving.{common}

pub taken : (all both more before rest set : List Value) (value : Value) → common all set ≡ both ++ common before set → before ≡ value ∷ rest
    → more ≡ both ++ value ∷ [] → list_any (is_at (compare_values value)) set ≡ true → common all set ≡ more ++ common rest set
taken all both more before rest set value e is grown h =
    e ∙ ap (λ (l : List Value). both ++ common l set) is
    ∙ ap (λ (l : List Value). both ++ l) (cond-true (list_any (is_at (compare_values value)) set) (value ∷ common rest set) (common rest set) h)
    ∙ sym (append_assoc both (value ∷ []) (common rest set)) ∙ ap (λ (l : List Value). l ++ common rest set) (sym grown)

pub left : (all both before rest set : List Value) (value : Value) → common all set ≡ both ++ common before set → before ≡ value ∷ rest
    → list_any (is_at (compare_values value)) set ≡ false → common all set ≡ both ++ common rest set
left all both before rest set value e is h =
    e ∙ ap (λ (l : List Value). both ++ common l set) is
    ∙ ap (λ (l : List Value). both ++ l) (cond-false (list_any (is_at (compare_values value)) set) (value ∷ common rest set) (common rest set) h)
