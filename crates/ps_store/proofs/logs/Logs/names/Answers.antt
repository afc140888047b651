use Rattle.std.proofs.Common.{◌≡◌, ℕ, List, ◌++◌, sym, ap, ◌∙◌, subst, append-nil}
use Rattle.std.specs.List.Sorted.{IsStrictlySortedBy}
use Rattle.ps_bucket_log.specs.Logs.{LogState}
use Rattle.ps_store.proofs.Counting.{order, has, names_at, names_sorted, names_found}
use Rattle.ps_store.proofs.logs.Logs.names.Goals as goal

pub returns-clause-in_order : goal.returns-clause-in_order
returns-clause-in_order c =
    let all : c.logs.names ≡ names_at c.args.upto.0 c.args.self.now.logs.entries =
    sym (append-nil c.logs.names) ∙ ap (λ (es : List (List ℕ × LogState)). c.logs.names ++ names_at c.args.upto.0 es) (sym c.in-None.ensures.steps.0) ∙ c.logs.invariant in
    subst (IsStrictlySortedBy order) (sym all) (names_sorted c.args.upto.0 c.args.self.now.logs.entries c.len-count.ensures.ordered)

pub returns-clause-names : goal.returns-clause-names
returns-clause-names c = λ bucket.
    let all : c.logs.names ≡ names_at c.args.upto.0 c.args.self.now.logs.entries =
    sym (append-nil c.logs.names) ∙ ap (λ (es : List (List ℕ × LogState)). c.logs.names ++ names_at c.args.upto.0 es) (sym c.in-None.ensures.steps.0) ∙ c.logs.invariant in
    ap (λ (names : List (List ℕ)). has names bucket) all ∙ names_found c.args.upto.0 c.args.self.now.logs.entries bucket c.len-count.ensures.ordered
