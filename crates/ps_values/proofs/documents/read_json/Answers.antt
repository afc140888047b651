use Rattle.std.proofs.Common.{sym, ap, ◌∙◌}
use Rattle.serde_json.specs.Read.{read}
use Rattle.ps_values.proofs.Objects.{json_some, json_none, json_no_text}
use Rattle.ps_values.proofs.documents.read_json.Goals as goal

pub returns-in_default-clause-value : goal.returns-in_default-clause-value
returns-in_default-clause-value c = json_no_text c.args.bytes.now c.in_default.ensures.cases.0

pub returns-in-Ok-from_str-clause-value : goal.returns-in-Ok-from_str-clause-value
returns-in-Ok-from_str-clause-value c =
    json_some c.args.bytes.now _ c.in-Ok.ensures.cases.1 (ap read (sym c.in-Ok.ensures.cases.0) ∙ c.in-Ok-from_str.ensures.ok)

pub returns-in-Ok-from_str-clause-no_text : goal.returns-in-Ok-from_str-clause-no_text
returns-in-Ok-from_str-clause-no_text c = λ not_text. absurd (not_text c.in-Ok.ensures.cases.1)

pub returns-then-is_memory-clause-no_text : goal.returns-then-is_memory-clause-no_text
returns-then-is_memory-clause-no_text c = λ not_text. absurd (not_text c.in-Ok.ensures.cases.1)

pub returns-else-is_memory-clause-value : goal.returns-else-is_memory-clause-value
returns-else-is_memory-clause-value c =
    json_none c.args.bytes.now (λ _. ap read (sym c.in-Ok.ensures.cases.0) ∙ c.in-Err.ensures.err (λ e. let f = c.if-is_memory.ensures.1 e in cc))
