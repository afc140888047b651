use Rattle.ps_definitions.proofs.Meetings.{holds_where_met, same_test}
use Rattle.ps_definitions.proofs.laws.conditions_hold_where_a_branch_is_met.Goals as goal

pub returns : goal.returns
returns c = record { holds = holds_where_met c.equal_where_both_are_present.ensures; same = same_test c.equal_where_both_are_present.ensures }
