use Rattle.std.proofs.Common.{◌≡◌, false, ap, ◌∙◌}
use Rattle.serde_json.specs.View.{view}
use Rattle.serde_json.specs.Written.{has_float}
use Rattle.ps_data.specs.declared.values.Value.TheVariants.{Text}
use Rattle.ps_queries.specs.Meaning.{member_text}
use Rattle.ps_sql_eval.proofs.Parts.{member_floatless}
use Rattle.ps_sql_eval.proofs.members.text_of_member.Goals as goal

pub returns-in_ok-text_of_json-in-Some : goal.returns-in_ok-text_of_json-in-Some
returns-in_ok-text_of_json-in-Some c =
    let plain : has_float (view c.in-Some.member.now) ≡ false = member_floatless c.args.key.now (view c.args.json.now) (view c.in-Some.member.now) c.in-Some.ensures c.requires in
    ap Text (c.in_ok-text_of_json-in-Some.ensures plain) ∙ ap member_text c.in-Some.ensures
