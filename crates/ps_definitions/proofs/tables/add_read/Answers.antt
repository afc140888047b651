use Rattle.std.proofs.Common.{◌≡◌, ℕ, List, Bool, true, false, Option, take, refl, sym, ap, ◌∙◌, subst, add-one}
use Rattle.std.specs.Prelude.{◌||◌}
use Rattle.std.specs.List.{list_any}
use Rattle.std.specs.Ordering.{nat_cmp}
use Rattle.std.specs.Cmp.Lexicographic.{slice_cmp}
use Rattle.std.specs.BTreeSet.{BTreeSet, contains}
use Rattle.ps_queries.specs.declared.queries.ParameterQuery.{ParameterQuery}
use Rattle.ps_definitions.specs.Tables.{is_table}
use Rattle.ps_definitions.proofs.Tabled.{read_more, table_put}
use Rattle.ps_definitions.proofs.tables.add_read.Goals as goal
use Rattle.ps_definitions.proofs.tables.add_read.Goals.{in-Some+in_ok-copy+in_ok-insert, in_default}

or_false : (b : Bool) → b ≡ (b || false)
or_false b = elim b as (λ b. b ≡ (b || false)) [ true ↦ refl | false ↦ refl ]

pub queries-preserved : goal.queries-preserved
queries-preserved c = λ table.
    let step : contains (slice_cmp nat_cmp) c.match-query.read table ≡ (contains (slice_cmp nat_cmp) c.queries.read table || is_table table c.query-item.result.table) =
    elim c.match-query.branch [
      | in-Some+in_ok-copy+in_ok-insert w ↦
          ap (λ (s : BTreeSet (List ℕ)). contains (slice_cmp nat_cmp) s table) w.read-is
          ∙ table_put c.queries.read w.insert.new.self w.in_ok-copy.field-0 w.in-Some.table w.in_ok-insert.ensures.updates w.in_ok-copy.ensures table
          ∙ ap (λ (o : Option (List ℕ)). contains (slice_cmp nat_cmp) c.queries.read table || is_table table o) (sym w.in-Some.is)
      | in_default w ↦
          ap (λ (s : BTreeSet (List ℕ)). contains (slice_cmp nat_cmp) s table) w.read-is
          ∙ or_false (contains (slice_cmp nat_cmp) c.queries.read table)
          ∙ ap (λ (o : Option (List ℕ)). contains (slice_cmp nat_cmp) c.queries.read table || is_table table o) (sym w.in_default.is)
    ] in
    subst (λ k. contains (slice_cmp nat_cmp) c.match-query.read table ≡ (contains (slice_cmp nat_cmp) c.args.read.now table || list_any (λ (q : ParameterQuery). is_table table q.table) (take k c.args.queries.now))) (sym (add-one c.queries.query-index))
    (read_more (λ (q : ParameterQuery). is_table table q.table) c.queries.query-index c.args.queries.now c.query-item.result c.queries-test.true c.query-item.is
    (contains (slice_cmp nat_cmp) c.args.read.now table) (contains (slice_cmp nat_cmp) c.queries.read table) (contains (slice_cmp nat_cmp) c.match-query.read table) (c.queries.invariant table) step)
