-- That a set of names goes with a list of pairs, one pair more.
use Rattle.std.proofs.Common.{◌≡◌, ℕ, List, [], ◌∷◌, ◌++◌, true, cond, bytes_eq, nat_cmp, sym, ap, ◌∙◌, arith}
use Rattle.std.specs.Cmp.Lexicographic.{slice_cmp}
use Rattle.std.specs.BTreeSet.{BTreeSet, contains, Updates}
use Rattle.std.proofs.lemmas.Map.Text.{is_eq-slice_cmp}
use Rattle.ps_yaml.specs.declared.nodes.Pair.{Pair}
use Rattle.ps_yaml.specs.Trees.{is_named}

named_more : (q : List ℕ) (pairs : List Pair) (pair : Pair) → is_named q (pairs ++ pair ∷ []) ≡ cond (bytes_eq pair.name q) true (is_named q pairs)
named_more q [] pair = grind arith
named_more q (p ∷ pairs) pair = grind (arith, named_more q pairs pair)

pub still_named : (old new : BTreeSet (List ℕ)) (key : List ℕ) (pairs more : List Pair) (pair : Pair) → Updates (slice_cmp nat_cmp) old new key true
    → ((q : List ℕ) → contains (slice_cmp nat_cmp) old q ≡ is_named q pairs) → key ≡ pair.name → more ≡ pairs ++ pair ∷ []
    → (q : List ℕ) → contains (slice_cmp nat_cmp) new q ≡ is_named q more
still_named old new key pairs more pair updates held name is q =
    let test = is_eq-slice_cmp key q ∙ ap (λ (n : List ℕ). bytes_eq n q) name in
    updates.0 q ∙ ap (λ b. cond b true (contains (slice_cmp nat_cmp) old q)) test ∙ ap (λ b. cond (bytes_eq pair.name q) true b) (held q)
    ∙ sym (named_more q pairs pair) ∙ ap (λ (ps : List Pair). is_named q ps) (sym is)
