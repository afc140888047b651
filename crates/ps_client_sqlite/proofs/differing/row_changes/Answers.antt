use Rattle.std.proofs.Common.{◌≡◌, true, false, true≢false, List, Option, inl, inr, refl, sym, ap, subst, ◌∙◌, rules}
use Rattle.std.specs.List.{IsDistinct}
use Rattle.std.specs.Map.{lookup, keys_of}
use Rattle.indexmap.specs.IndexMap.{get}
use Rattle.ps_client_sqlite.specs.Differing.{rows_at}
use Rattle.ps_client_sqlite.proofs.Notings.{Noting, Dropping, Noting-start, Noting-step, Dropping-start, Dropping-step, Dropping-end, told_false, told_true}
use Rattle.ps_client_sqlite.proofs.differing.row_changes.Goals as goal

pub new-init : goal.new-init
new-init g c =
    let eq = g.K.PartialEq.eq in
    let f = rows_at eq c.args.old.items in
    let h = rows_at eq c.args.new.items in
    let gives = c.into_iter-key-iterator.ensures.into_iter_gives in
    let rest = c.into_iter-key-iterator.result in
    let left = get eq c.in_ok-left.left in
    subst (λ (changes : List (g.row.K.Denot × Option g.row.V.Denot)). Noting eq f h rest left changes) (sym c.new-changes.ensures.items)
    (Noting-start eq f h rest left c.in_ok-left.ensures
    (λ at. ap (λ (l : List (g.row.K.Denot × g.row.V.Denot)). lookup (eq at) l) gives.0 ∙ c.in_ok-items.ensures at)
    (subst (λ (l : List (g.row.K.Denot × g.row.V.Denot)). IsDistinct eq (keys_of l)) (sym gives.0) gives.4))

pub new-preserved-in-Continue-branch-3 : goal.new-preserved-in-Continue-branch-3
new-preserved-in-Continue-branch-3 g c =
    let eq = g.K.PartialEq.eq in
    let f = rows_at eq c.args.old.items in
    let h = rows_at eq c.args.new.items in
    let k = c.in-Some.key in
    let v = c.in-Some.value in
    let left = get eq c.new.left in
    let changes = c.new.changes.items in
    let apart : c.had.result ≡ false = first_of (search rules, search (rules, told_false), cc) in
    Noting-step eq c.requires.keys f h k v c.next.new.self left (get eq c.had.new.left) changes c.push.new.self.items
    (subst (λ (l : List (g.row.K.Denot × g.row.V.Denot)). Noting eq f h l left changes) c.in-Some.ensures.steps c.new.invariant) c.had.ensures.left
    (inr ((λ is. true≢false (sym (c.had.ensures.had.1 is) ∙ apart)), c.in_ok-push.ensures.items))

pub new-preserved : goal.new-preserved
new-preserved g c =
    let eq = g.K.PartialEq.eq in
    let f = rows_at eq c.args.old.items in
    let h = rows_at eq c.args.new.items in
    let k = c.in-Some.key in
    let v = c.in-Some.value in
    let left = get eq c.new.left in
    let changes = c.new.changes.items in
    let there : c.had.result ≡ true = first_of (search rules, search (rules, told_true), cc) in
    Noting-step eq c.requires.keys f h k v c.next.new.self left (get eq c.had.new.left) changes changes
    (subst (λ (l : List (g.row.K.Denot × g.row.V.Denot)). Noting eq f h l left changes) c.in-Some.ensures.steps c.new.invariant) c.had.ensures.left
    (inl (c.had.ensures.had.0 there, refl))

pub left-init : goal.left-init
left-init g c =
    let eq = g.K.PartialEq.eq in
    let f = rows_at eq c.args.old.items in
    let h = rows_at eq c.args.new.items in
    let gives = c.into_iter-gone-iterator.ensures.into_iter_gives in
    let left = get eq c.new.left in
    let changes = c.new.changes.items in
    Dropping-start eq f h left c.into_iter-gone-iterator.result changes
    (subst (λ (l : List (g.row.K.Denot × g.row.V.Denot)). Noting eq f h l left changes) c.in-None.ensures.steps.0 c.new.invariant)
    (λ at. ap (λ (l : List (g.row.K.Denot × g.row.V.Denot)). lookup (eq at) l) gives.0)
    (subst (λ (l : List (g.row.K.Denot × g.row.V.Denot)). IsDistinct eq (keys_of l)) (sym gives.0) gives.4)

pub left-preserved : goal.left-preserved
left-preserved g c =
    let eq = g.K.PartialEq.eq in
    let f = rows_at eq c.args.old.items in
    let h = rows_at eq c.args.new.items in
    let rest = c.next-in-left.new.self in
    let changes = c.left.changes.items in
    subst (λ (all : List (g.row.K.Denot × Option g.row.V.Denot)). Dropping eq f h rest all) (sym c.in_ok-push-2.ensures.items)
    (Dropping-step eq c.requires.keys f h c.in-Some-2.gone c.in-Some-2._value rest changes
    (subst (λ (l : List (g.row.K.Denot × g.row.V.Denot)). Dropping eq f h l changes) c.in-Some-2.ensures.steps c.left.invariant))

pub returns : goal.returns
returns g c =
    let eq = g.K.PartialEq.eq in
    let f = rows_at eq c.args.old.items in
    let h = rows_at eq c.args.new.items in
    let changes = c.left.changes.items in
    Dropping-end eq f h changes (subst (λ (l : List (g.row.K.Denot × g.row.V.Denot)). Dropping eq f h l changes) c.in-None-2.ensures.steps.0 c.left.invariant)
