use Rattle.std.proofs.Common.{◌≡◌, ◌≤◌, ◌*◌, ◌^◌, take}
use Rattle.ps_commands.specs.Generating.{all_after, all_before}
use Rattle.ps_commands.proofs.generating.add_up.Given as goal

-- the sums so far
abbrev pub invariant-reports : goal.invariant-reports
invariant-reports l = record {
  before : l.before ≡ all_before (take l.compacted-index l.reports);
  after : l.after ≡ all_after (take l.compacted-index l.reports);
  before_within : l.before ≤ l.compacted-index * 2 ^ 64;
  after_within : l.after ≤ l.compacted-index * 2 ^ 64;
}
