use Rattle.std.proofs.Common.{◌≡◌, List, ◌++◌, ap, ◌∙◌, map, append-nil, arith}
use Rattle.std.specs.Prelude.{slice_set}
use Rattle.std.proofs.lemmas.List.{take_all, drop_all}
use Rattle.std.proofs.lemmas.List.Edits.{map_over_more}
use Rattle.ps_data.specs.declared.ids.OpId.{OpId}
use Rattle.ps_store.specs.declared.plans.Made.{Made}
use Rattle.ps_store.specs.StoreGenerations.{rows_made}
use Rattle.ps_store.specs.Tails.{ids}
use Rattle.ps_store.proofs.LastsKept.{kept_made, ids_kept, rows_kept, ids_same}
use Rattle.ps_store.proofs.lasts.keep_writes.Goals as goal

pub made-preserved : goal.made-preserved
made-preserved c =
    ap (λ (id : OpId). slice_set c.made.made.items c.made.place (record { last = id; row = c.index_mut-one.result.now.row })) c.kept-one.ensures
    ∙ map_over_more (kept_made c.args.last c.args.wrote) c.args.made.now.items c.made.made.items c.made.place c.index_mut-one.result.now (omega (arith, c.len-place-end.ensures, c.args.made.now.ok)) c.made.invariant c.index_mut-one.ensures.value

pub returns-clause-ids : goal.returns-clause-ids
returns-clause-ids c =
    let old : List Made = c.args.made.now.items in
    let all : c.made.made.items ≡ map (kept_made c.args.last c.args.wrote) old =
    c.made.invariant
    ∙ (λ i. map (kept_made c.args.last c.args.wrote) (take_all c.made.place old (omega (arith, c.len-place-end.ensures, c.args.made.now.ok)) i) ++ drop_all c.made.place old (omega (arith, c.len-place-end.ensures, c.args.made.now.ok)) i)
    ∙ append-nil (map (kept_made c.args.last c.args.wrote) old) in
    ap ids all ∙ ids_kept c.args.last c.args.wrote old

pub returns-clause-rows : goal.returns-clause-rows
returns-clause-rows c =
    let old : List Made = c.args.made.now.items in
    let all : c.made.made.items ≡ map (kept_made c.args.last c.args.wrote) old =
    c.made.invariant
    ∙ (λ i. map (kept_made c.args.last c.args.wrote) (take_all c.made.place old (omega (arith, c.len-place-end.ensures, c.args.made.now.ok)) i) ++ drop_all c.made.place old (omega (arith, c.len-place-end.ensures, c.args.made.now.ok)) i)
    ∙ append-nil (map (kept_made c.args.last c.args.wrote) old) in
    ap rows_made all ∙ rows_kept c.args.last c.args.wrote old

pub returns-then-last-wrote-clause-ids : goal.returns-then-last-wrote-clause-ids
returns-then-last-wrote-clause-ids c = ids_same c.args.last.0 c.args.wrote.0 (ids c.args.made.now.items) (omega arith)
