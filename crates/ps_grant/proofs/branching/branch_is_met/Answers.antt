use Rattle.std.proofs.Common.{◌≡◌, true, List, Some, map, sym, ap, ◌∙◌, subst}
use Rattle.std.specs.Prelude.{IfOk}
use Rattle.std.specs.List.{list_any, list_all}
use Rattle.ps_queries.specs.declared.expressions.Expr.{Expr}
use Rattle.ps_queries.specs.Meaning.{Given, holds}
use Rattle.ps_sql_eval.specs.Evaluated.{without_bucket}
use Rattle.ps_definitions.specs.declared.matches.Match.{Match}
use Rattle.ps_grant.specs.declared.solving.Allowed.{Allowed}
use Rattle.ps_grant.specs.Solving.{all_allow, allowed_by}
use Rattle.ps_grant.proofs.BranchLaws.{met_where_allowed, met_nowhere}
use Rattle.ps_grant.proofs.branching.branch_is_met.Goals as goal

pub returns-then-not-branch : goal.returns-then-not-branch
returns-then-not-branch c =
    let given : Given = without_bucket c.args.asker.now c.args.id.now c.args.row.now in
    met_nowhere c.equal_where_both_are_present.ensures c.same_for_every_bucket.ensures given c.args.names.now c.args.vectors.now c.args.branch.now c.requires.unbound
    (ap (λ (es : List Expr). list_all (λ (e : Expr). holds given (Some e)) es) (sym c.as_slice.ensures) ∙ sym c.in_ok-all_hold.ensures ∙ c.if-not-branch.true)

pub returns : goal.returns
returns c =
    let given : Given = without_bucket c.args.asker.now c.args.id.now c.args.row.now in
    let rest : list_all (λ (e : Expr). holds given (Some e)) c.args.branch.now.rest ≡ true =
    ap (λ (es : List Expr). list_all (λ (e : Expr). holds given (Some e)) es) (sym c.as_slice.ensures) ∙ sym c.in_ok-all_hold.ensures ∙ c.if-not-branch.false in
    subst (λ b. IfOk c.some_allowed.result (λ met. met ≡ b))
    (ap (λ (all : List Allowed). list_any (all_allow c.args.names.now all) c.args.vectors.now)
    (c.as_slice-3.ensures ∙ c.in_ok-all.ensures ∙ ap (λ (ms : List Match). map (allowed_by given) ms) c.as_slice-2.ensures)
    ∙ met_where_allowed c.equal_where_both_are_present.ensures c.same_for_every_bucket.ensures given c.args.names.now c.args.vectors.now c.args.branch.now c.requires.unbound rest)
    c.some_allowed.ensures
