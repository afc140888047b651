use Rattle.std.proofs.Common.{◌<◌, ap, arith}
use Rattle.ps_bucket_log.specs.Ops.{id_of, newest}
use Rattle.ps_bucket_log.specs.Logs.{LogState}
use Rattle.ps_bucket_log.proofs.Found.{IsLog-push}
use Rattle.ps_bucket_log.proofs.plain_logs.BucketLogLog.append.Goals as goal

pub invariant_of-self : goal.invariant_of-self
invariant_of-self c =
    let same = ap (λ (state : LogState). state.ops) c.self.view_is in
    let newer : newest c.self.inside.ops.items < id_of c.args.op = rw same c.requires.newer in
    let pushed = IsLog-push c.self.inside.ops.items c.args.op c.self.invariant newer c.requires.no_clear in
    grind (arith, pushed)
