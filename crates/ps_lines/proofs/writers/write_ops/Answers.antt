use Rattle.std.proofs.Common.{◌≡◌, ◌<◌, ◌^◌, take, subst, arith}
use Rattle.std.specs.List.{All}
use Rattle.std.proofs.lemmas.Grind.{common_steps}
use Rattle.std.proofs.lemmas.List.Elements.{All-more}
use Rattle.ps_bucket_log.specs.Ops.{checksum}
use Rattle.ps_lines.proofs.Tokens.{list_goes_on}
use Rattle.ps_lines.specs.Writing.{op_json}
use Rattle.ps_lines.proofs.writers.write_ops.Goals as goal

pub ops-preserved : goal.ops-preserved
ops-preserved c = record {
  written = list_goes_on op_json c.args.ops.now c.ops.op-index c.op-item.result c.begin_array.new.self c.ops.writer c.write_op.new.writer
      (omega arith) (grind (arith, common_steps)) c.in_ok-write_op.ensures.value c.ops.invariant.written;
  sums = All-more (λ op. checksum op < 2 ^ 32) c.args.ops.now c.ops.op-index c.op-item.result (omega arith) c.ops.invariant.sums (grind (arith, common_steps));
}

pub returns-clause-sums : goal.returns-clause-sums
returns-clause-sums c =
    let all : take c.ops.op-index c.args.ops.now ≡ c.args.ops.now = grind (arith, common_steps) in
    subst (All (λ op. checksum op < 2 ^ 32)) all c.ops.invariant.sums
