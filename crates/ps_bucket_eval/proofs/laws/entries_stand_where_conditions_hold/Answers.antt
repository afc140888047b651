use Rattle.ps_bucket_eval.proofs.Allowing.{ValueLaws}
use Rattle.ps_bucket_eval.proofs.Sides.{SpreadLaws}
use Rattle.ps_bucket_eval.proofs.Solutions.{BranchLaws}
use Rattle.ps_bucket_eval.proofs.Placements.{placed_where_holds}
use Rattle.ps_bucket_eval.proofs.Ranks.{entries_rise}
use Rattle.ps_bucket_eval.proofs.laws.entries_stand_where_conditions_hold.Goals as goal

pub returns : goal.returns
returns c =
    let values : ValueLaws = record { ties = c.compare_is_a_total_order.ensures.ties; equal = c.equal_where_both_are_present.ensures } in
    let spread : SpreadLaws = record { either = c.spread_as_written.ensures.either; both = c.spread_as_written.ensures.both; leaf = c.spread_as_written.ensures.leaf } in
    let laws : BranchLaws = record {
      values = values;
      spread = spread;
      same_test = c.conditions_hold_where_a_branch_is_met.ensures.same;
      where_met = c.conditions_hold_where_a_branch_is_met.ensures.holds;
      vector = c.same_for_every_bucket.ensures;
    } in
    record {
      placed = λ rules source are. placed_where_holds laws c.names_are_distinct.ensures rules source are;
      order = λ rules source are. entries_rise source 0 rules.definitions are.numbers_rise;
    }
