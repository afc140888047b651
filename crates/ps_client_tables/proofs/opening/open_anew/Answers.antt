use Rattle.std.proofs.Common.{sym, subst, ◌∙◌, arith}
use Rattle.sqlite_trees.specs.View.{IsClean}
use Rattle.sqlite_catalog.specs.Listing.{IsSound}
use Rattle.sqlite.specs.Held.{state}
use Rattle.ps_client_tables.specs.Schemas.{client_schema}
use Rattle.ps_client_tables.specs.Tables.{AreTables, tables_in}
use Rattle.ps_client_tables.proofs.Anew.{still_open, fresh, in_order}
use Rattle.ps_client_tables.proofs.opening.open_anew.Goals as goal

pub over-requires : goal.over-requires
over-requires g c clean =
    let store = c.into_store-store.result in
    let sound = sym (c.is_broken.ensures clean) ∙ c.if-is_broken.false in
    let open' = still_open (g.S.Store.view store) (g.met.S.Store.broken_if_shut store) sound in
    fresh (g.S.Store.view c.args.connection.store) (g.S.Store.view store) c.into_store-store.ensures.undone open' sound (c.into_store-store.ensures.numbered clean) clean

pub returns-in-Ok-clause-rows : goal.returns-in-Ok-clause-rows
returns-in-Ok-clause-rows g c clean =
    let store = c.into_store-store.result in
    let early : IsClean (g.S.Store.view store) = omega (arith, c.in-Ok.ensures.clean) in
    let sound = sym (c.is_broken.ensures early) ∙ c.if-is_broken.false in
    let open' = still_open (g.S.Store.view store) (g.met.S.Store.broken_if_shut store) sound in
    c.in-Ok.ensures.trees clean ∙ (c.into_store-store.ensures.undone.undone open').0

pub returns-in-Ok-clause-clean : goal.returns-in-Ok-clause-clean
returns-in-Ok-clause-clean g c clean = omega (arith, c.in-Ok.ensures.clean, c.into_store-store.ensures.quiet.clean)

pub returns-in-Ok-clause-ordered : goal.returns-in-Ok-clause-ordered
returns-in-Ok-clause-ordered g c clean has =
    let store = c.into_store-store.result in
    let early : IsClean (g.S.Store.view store) = omega (arith, c.in-Ok.ensures.clean) in
    let sound = sym (c.is_broken.ensures early) ∙ c.if-is_broken.false in
    let opens = c.in-Ok.ensures.opens clean in
    let trees = c.in-Ok.ensures.trees clean in
    let database = (opens.1 opens.0.is_open).0 in
    let ours = subst (λ t. IsSound client_schema t) trees (subst (λ s. IsSound s (state g.S.Store c.in-Ok.anew).now.trees) has database) in
    subst (λ t. AreTables (tables_in t)) (sym trees) (in_order (g.S.Store.view store) (g.met.S.Alter.listed store sound) (g.met.S.Store.ordered store sound) ours)
