use Rattle.std.proofs.Common.{List, ℕ, sym, subst}
use Rattle.std.specs.Cmp.Lexicographic.{slice_cmp}
use Rattle.std.specs.List.Sorted.{IsStrictlySortedBy}
use Rattle.std.specs.Ordering.{nat_cmp}
use Rattle.std.proofs.lemmas.Result.{IfOk-weaker}
use Rattle.ps_client_log.proofs.Copies.{names_listed}
use Rattle.ps_client_log.proofs.rows.bucket_names.Goals as goal

pub returns-clause-in_order : goal.returns-clause-in_order
returns-clause-in_order c =
    IfOk-weaker c.listed_names.result _ _
    (λ names listed. subst (λ (all : List (List ℕ)). IsStrictlySortedBy (slice_cmp nat_cmp) all) (sym listed) c.listed_names.ensures.ordered) c.listed_names.ensures.names

pub returns-clause-held : goal.returns-clause-held
returns-clause-held c =
    IfOk-weaker c.listed_names.result _ _
    (λ names listed. names_listed c.args.holdings.now c.in_ok-found.found names.items c.in_ok-found.ensures.distinct c.in_ok-found.ensures.names listed) c.listed_names.ensures.names
