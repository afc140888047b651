use Rattle.std.proofs.Common.{arith}
use Rattle.std.proofs.lemmas.List.{take_rest}
use Rattle.ps_bucket_log.specs.Ops.{past}
use Rattle.ps_bucket_log.proofs.Slices.{IsRising-past, IsRising-lower}
use Rattle.ps_bucket_log.proofs.places.back_past.Goals as goal

pub returns-clause-rising : goal.returns-clause-rising
returns-clause-rising g c =
    let ops = c.args.ops.now in
    rw (take_rest ops c.len_upto-place.result, c.len_upto-place.ensures.back)
    (IsRising-lower 0 c.args.id.0 (past c.args.id.0 ops) (IsRising-past c.args.id.0 0 ops c.requires) (omega arith))
