use Rattle.std.proofs.Common.{sym, ap, ◌∙◌, Some}
use Rattle.ps_file_lines.proofs.Cutting.{cut_some, cut_none}
use Rattle.ps_file_lines.proofs.cuts.cut.Goals as goal

pub returns-in-Some-clause-front : goal.returns-in-Some-clause-front
returns-in-Some-clause-front c = sym (cut_some c.args.at c.args.bytes.now c.in-Some.place (sym c.in-Some.ensures.value)).0

pub returns-in-Some-clause-rest : goal.returns-in-Some-clause-rest
returns-in-Some-clause-rest c = ap Some c.split_at.ensures.back ∙ sym (cut_some c.args.at c.args.bytes.now c.in-Some.place (sym c.in-Some.ensures.value)).1

pub returns-in-None-clause-front : goal.returns-in-None-clause-front
returns-in-None-clause-front c = sym (cut_none c.args.at c.args.bytes.now (sym c.in-None.ensures.value)).0

pub returns-in-None-clause-rest : goal.returns-in-None-clause-rest
returns-in-None-clause-rest c = sym (cut_none c.args.at c.args.bytes.now (sym c.in-None.ensures.value)).1
