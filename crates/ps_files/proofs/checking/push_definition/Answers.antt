use Rattle.std.proofs.Common.{◌≡◌, ◌++◌, ◌∙◌, ap, List, ℕ, append_assoc, codes, length}
use Rattle.ps_files.specs.Checking.{counted_line, definition_line}
use Rattle.ps_files.proofs.checking.push_definition.Goals as goal

joined : (a b c : List ℕ) → ((a ++ b) ++ c) ≡ a ++ (b ++ c)
joined a b c = simp append_assoc

pub returns : goal.returns
unfolding definition_line
returns c =
    let definition = c.args.definition.now in
    c.in_ok-push_counted.ensures
    ∙ ap (λ (xs : List ℕ). xs ++ counted_line definition.name c.len-parameters.result c.len-queries.result) c.in_ok-extend_from_slice.ensures.items
    ∙ ap (λ (n : ℕ). (c.args.out.now.items ++ codes "definition ") ++ counted_line definition.name n c.len-queries.result) c.len-parameters.ensures
    ∙ ap (λ (n : ℕ). (c.args.out.now.items ++ codes "definition ") ++ counted_line definition.name (length definition.parameters) n) c.len-queries.ensures
    ∙ joined c.args.out.now.items (codes "definition ") (counted_line definition.name (length definition.parameters) (length definition.queries))
