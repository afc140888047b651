use Rattle.std.proofs.Common.{◌≤◌, []}
use Rattle.ps_data.specs.Numbers.{greatest}
use Rattle.ps_lines.proofs.Kept.{distinct_of, all_of}
use Rattle.ps_lines.proofs.body_readers.read_positions.Goals as goal

pub returns-in_default-clause-distinct : goal.returns-in_default-clause-distinct
returns-in_default-clause-distinct c = distinct_of _ [] c.new.ensures

pub returns-clause-distinct : goal.returns-clause-distinct
returns-clause-distinct c = distinct_of _ c.in_ok-entries.entries c.in_ok-positions.ensures

pub returns-clause-within : goal.returns-clause-within
returns-clause-within c = all_of (λ known. known.after.0 ≤ greatest) _ c.in_ok-entries.entries c.in_ok-positions.ensures c.in_ok-entries.ensures.within
