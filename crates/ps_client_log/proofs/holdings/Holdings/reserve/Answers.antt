use Rattle.std.proofs.Common.{refl}
use Rattle.ps_client_log.specs.declared.holdings.Holdings.{Holdings}
use Rattle.ps_client_log.proofs.Making.{kept_by-same}
use Rattle.ps_client_log.proofs.holdings.Holdings.reserve.Goals as goal

pub returns-clause-kept : goal.returns-clause-kept
returns-clause-kept c =
    let old : Holdings = c.args.self.now in
    kept_by-same (record old { buckets = c.reserve_all.new.self; queue = c.reserve.new.self }) old c.reserve_all.ensures.buckets c.reserve.ensures.items refl refl
