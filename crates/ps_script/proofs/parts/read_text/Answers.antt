use Rattle.std.proofs.Common.{◌∙◌}
use Rattle.ps_script.proofs.Arguments.{text_is, no_text, is_text}
use Rattle.ps_script.proofs.parts.read_text.Goals as goal

pub returns-in-Ok-from_str-clause-exact : goal.returns-in-Ok-from_str-clause-exact
returns-in-Ok-from_str-clause-exact c = text_is c.args.bytes.now c.in-Ok-from_str.text (c.in-Ok-from_str.ensures ∙ c.in-Ok.ensures.cases.0) c.in-Ok.ensures.cases.1

pub returns-in-Ok-from_str-clause-refused : goal.returns-in-Ok-from_str-clause-refused
returns-in-Ok-from_str-clause-refused c = λ none. absurd (is_text c.args.bytes.now c.in-Ok.ensures.cases.1 none)

pub returns-in-Err-from_str-clause-refused : goal.returns-in-Err-from_str-clause-refused
returns-in-Err-from_str-clause-refused c = λ none. absurd (is_text c.args.bytes.now c.in-Ok.ensures.cases.1 none)

pub returns-in-Err-clause-exact : goal.returns-in-Err-clause-exact
returns-in-Err-clause-exact c = no_text c.args.bytes.now c.in-Err.ensures.cases.0
