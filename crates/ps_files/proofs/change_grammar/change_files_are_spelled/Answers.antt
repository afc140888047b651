use Rattle.std.proofs.Common.{sym, ◌∙◌}
use Rattle.ps_files.proofs.ChangeSpelling.{lines_are, file_found, file_only, loose_file_found, loose_file_only}
use Rattle.ps_files.proofs.change_grammar.change_files_are_spelled.Goals as goal

pub returns-clause-lines : goal.returns-clause-lines
returns-clause-lines c = λ bytes a b one other. sym (lines_are bytes a one) ∙ lines_are bytes b other

pub returns-clause-found : goal.returns-clause-found
returns-clause-found c = file_found c.lines_are_spelled.ensures

pub returns-clause-only : goal.returns-clause-only
returns-clause-only c = file_only c.lines_are_spelled.ensures

pub returns-clause-loose : goal.returns-clause-loose
returns-clause-loose c = λ bytes transactions. (loose_file_found c.lines_are_spelled.ensures bytes transactions, loose_file_only c.lines_are_spelled.ensures bytes transactions)
