use Rattle.serde_json.specs.View.{view}
use Rattle.ps_sql_eval.proofs.Parts.{member_floatless}
use Rattle.ps_sql_eval.proofs.members.value_of_member.Goals as goal

pub value_of_plain-requires : goal.value_of_plain-requires
value_of_plain-requires c = member_floatless c.args.key.now (view c.args.json.now) (view c.in-Some.member.now) c.in-Some.ensures c.requires
