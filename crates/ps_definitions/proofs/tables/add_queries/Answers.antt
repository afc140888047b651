use Rattle.std.proofs.Common.{◌≡◌, List, [], ◌∷◌, ◌++◌, take, sym, ap, ◌∙◌, subst, add-one}
use Rattle.std.specs.Prelude.{if◌then◌else◌, bytes_eq}
use Rattle.ps_definitions.specs.declared.queries.Planned.{Planned}
use Rattle.ps_definitions.specs.declared.tables.QueryPlace.{QueryPlace}
use Rattle.ps_definitions.specs.Tables.{places_among, places_at}
use Rattle.ps_definitions.proofs.Tabled.{queries_more}
use Rattle.ps_definitions.proofs.tables.add_queries.Goals as goal

pub loop-query-preserved : goal.loop-query-preserved
loop-query-preserved c = λ table.
    let after : Planned → List QueryPlace =
    (λ q. if bytes_eq q.query.table table then places_at c.loop-query.found table ++ (record { definition = c.args.definition; query = c.loop-query.query }) ∷ [] else places_at c.loop-query.found table) in
    subst (λ k. places_at c.add_place.new.found table ≡ places_at c.args.found.now table ++ places_among table c.args.definition 0 (take k c.args.queries.now)) (sym (add-one c.loop-query.query))
    (queries_more table c.args.definition c.loop-query.query c.args.queries.now c.index-queries-query.result (places_at c.args.found.now table) (places_at c.loop-query.found table) (places_at c.add_place.new.found table)
    c.loop-query-test.true c.index-queries-query.is (c.loop-query.invariant table) (c.in_ok-add_place.ensures table ∙ ap after (sym c.index-queries-query.is)))
