use Rattle.serde_json.specs.Data.{string}
use Rattle.ps_lines.proofs.Tokens.{IsWrittenTo}
use Rattle.ps_lines.proofs.member_writers.write_texts.Given as goal

abbrev pub invariant-texts : goal.invariant-texts
invariant-texts l = IsWrittenTo string l.texts l.text-index l.initial.writer l.writer
