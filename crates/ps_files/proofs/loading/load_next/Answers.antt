use Rattle.std.proofs.Common.{Err, ap}
use Rattle.ps_files.specs.Loading.{Loads, MissesNamed, FindsRules, IsNextFault}
use Rattle.ps_files.specs.HeldFiles.{rules_limit}
use Rattle.ps_files.proofs.NextRules.{next_misses, next_stops}
use Rattle.ps_files.proofs.loading.load_next.Goals as goal

pub returns-in-Err-clause-loads : goal.returns-in-Err-clause-loads
returns-in-Err-clause-loads g c =
    rw c.of_next.ensures (next_stops (g.F.Files.held c.args.files.now) c.args.name.now rules_limit (g.F.Files.faults c.args.files.now) (g.F.Files.faults c.load_rules.new.files) c.in-Err.fault c.in-Err.ensures.loads)

pub returns-in-Err-clause-missed : goal.returns-in-Err-clause-missed
returns-in-Err-clause-missed g c =
    rw c.of_next.ensures (next_misses (g.F.Files.missed c.args.files.now) (g.F.Files.missed c.load_rules.new.files) c.in-Err.fault c.in-Err.ensures.missed)
