use Rattle.std.proofs.Common.{◌≡◌, ◌++◌, drop}
use Rattle.ps_files.specs.Compacting.{reports_text}
use Rattle.ps_files.proofs.compacting.print_reports.Given as goal

-- what is printed so far, and then the reports that are left, is the text of all
abbrev pub invariant-reports : goal.invariant-reports
invariant-reports l = l.out.items ++ reports_text (drop l.compacted-index l.reports) ≡ reports_text l.reports
