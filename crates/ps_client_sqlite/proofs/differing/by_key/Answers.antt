use Rattle.std.proofs.Common.{◌≡◌, List, [], ◌∷◌, Some, sym, ap, subst, ◌∙◌, rules}
use Rattle.std.proofs.lemmas.List.{nil_from_length}
use Rattle.std.specs.Map.{update, update_all}
use Rattle.indexmap.specs.IndexMap.{get}
use Rattle.ps_client_sqlite.specs.Differing.{rows_at}
use Rattle.ps_client_sqlite.proofs.differing.by_key.Goals as goal

pub rows-preserved-in_ok-insert : goal.rows-preserved-in_ok-insert
rows-preserved-in_ok-insert g c = λ key.
    let eq = g.K.PartialEq.eq in
    let now : get eq c.insert.new.self ≡ update eq (get eq c.rows.index) c.in-Some.key (Some c.in-Some.value) = λ i q. c.in_ok-insert.ensures.updates.0 q i in
    let is : c.rows.key-iterator.rest.items ≡ (c.in-Some.key, c.in-Some.value) ∷ c.next.new.self.rest.items = search rules in
    ap (λ (f : g.row.K.Denot → _). update_all eq f c.next.new.self.rest.items key) now
    ∙ subst (λ (xs : List (g.row.K.Denot × g.row.V.Denot)). update_all eq (get eq c.rows.index) xs key ≡ rows_at eq c.args.rows.items key) is (c.rows.invariant key)

pub rows-preserved : goal.rows-preserved
rows-preserved g c = λ key.
    let eq = g.K.PartialEq.eq in
    let now : get eq c.insert.new.self ≡ update eq (get eq c.rows.index) c.in-Some.key (Some c.in-Some.value) = λ i q. c.in_ok-insert.ensures.updates.0 q i in
    let is : c.rows.key-iterator.rest.items ≡ (c.in-Some.key, c.in-Some.value) ∷ c.next.new.self.rest.items = search rules in
    ap (λ (f : g.row.K.Denot → _). update_all eq f c.next.new.self.rest.items key) now
    ∙ subst (λ (xs : List (g.row.K.Denot × g.row.V.Denot)). update_all eq (get eq c.rows.index) xs key ≡ rows_at eq c.args.rows.items key) is (c.rows.invariant key)

pub returns : goal.returns
returns g c = λ key.
    let eq = g.K.PartialEq.eq in
    let is : c.rows.key-iterator.rest.items ≡ [] = nil_from_length c.rows.key-iterator.rest.items (sym c.rows.key-iterator.rest.ok.0 ∙ c.in-None.ensures.steps.0) in
    subst (λ (xs : List (g.row.K.Denot × g.row.V.Denot)). update_all eq (get eq c.rows.index) xs key ≡ rows_at eq c.args.rows.items key) is (c.rows.invariant key)
