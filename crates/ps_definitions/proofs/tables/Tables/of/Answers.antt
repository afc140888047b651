use Rattle.std.proofs.Common.{◌≡◌, List, ◌++◌, false, take, sym, ap, ◌∙◌, subst, add-one}
use Rattle.std.specs.Prelude.{◌||◌}
use Rattle.std.specs.List.{list_any}
use Rattle.std.specs.Ordering.{nat_cmp}
use Rattle.std.specs.Cmp.Lexicographic.{slice_cmp}
use Rattle.std.specs.BTreeSet.{contains}
use Rattle.ps_queries.specs.declared.queries.ParameterQuery.{ParameterQuery}
use Rattle.ps_definitions.specs.declared.queries.Planned.{Planned}
use Rattle.ps_definitions.specs.Tables.{places_from, places_among, places_at, is_table, is_read, has_reader}
use Rattle.ps_definitions.proofs.Tabled.{definitions_more, read_more}
use Rattle.ps_definitions.proofs.tables.Tables.of.Goals as goal

pub loop-number-preserved : goal.loop-number-preserved
loop-number-preserved c = record {
  found = λ table.
      subst (λ k. places_at c.add_queries.new.found table ≡ places_from table 0 (take k c.args.definitions.now)) (sym (add-one c.loop-number.number))
      (definitions_more table c.loop-number.number c.args.definitions.now c.index-definitions-number.result (places_at c.loop-number.queries table) (places_at c.add_queries.new.found table)
      c.loop-number-test.true c.index-definitions-number.is (c.loop-number.invariant.found table)
      (c.in_ok-add_queries.ensures table
      ∙ ap (λ (qs : List Planned). places_at c.loop-number.queries table ++ places_among table c.loop-number.number 0 qs) c.as_slice.ensures));
  read = λ table.
      subst (λ k. contains (slice_cmp nat_cmp) c.add_read.new.read table ≡ is_read (take k c.args.definitions.now) table) (sym (add-one c.loop-number.number))
      (read_more (has_reader table) c.loop-number.number c.args.definitions.now c.index-definitions-number.result c.loop-number-test.true c.index-definitions-number.is
      false (contains (slice_cmp nat_cmp) c.loop-number.read table) (contains (slice_cmp nat_cmp) c.add_read.new.read table) (c.loop-number.invariant.read table)
      (c.in_ok-add_read.ensures table
      ∙ ap (λ (qs : List ParameterQuery). contains (slice_cmp nat_cmp) c.loop-number.read table || list_any (λ (q : ParameterQuery). is_table table q.table) qs)
      c.as_slice-in-loop-number.ensures));
}
