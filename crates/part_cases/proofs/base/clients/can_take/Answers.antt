use Rattle.std.proofs.Common.{◌≡◌, ◌<◌, ◌∙◌, length, take, sym, arith, rules}
use Rattle.ps_bucket_log.specs.Ops.{id_of}
use Rattle.part_cases.proofs.Rising.{last_of, take_rising}
use Rattle.part_cases.proofs.base.clients.can_take.Goals as goal

pub ops-preserved : goal.ops-preserved
ops-preserved c =
    let within : c.ops.op-index < length c.args.ops.now = omega arith in
    let past : last_of c.args.position.0 (take c.ops.op-index c.args.ops.now) < id_of c.op-item.result = omega (arith, c.ops.invariant.1, c.id.ensures) in
    let more = take_rising c.args.position.0 c.args.ops.now c.ops.op-index c.op-item.result within c.op-item.is c.ops.invariant.0 past in
    (more.0, more.1 ∙ sym c.id-last.ensures)
