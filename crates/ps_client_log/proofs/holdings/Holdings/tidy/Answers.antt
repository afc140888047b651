use Rattle.std.proofs.Common.{refl}
use Rattle.ps_client_log.specs.declared.holdings.Holdings.{Holdings}
use Rattle.ps_client_log.proofs.Making.{kept_by-same}
use Rattle.ps_client_log.proofs.holdings.Holdings.tidy.Goals as goal

pub returns-clause-kept : goal.returns-clause-kept
returns-clause-kept c =
    let old : Holdings = c.args.self.now in
    kept_by-same (record old { buckets = c.tidy_all.new.self }) old c.tidy_all.ensures refl refl refl
