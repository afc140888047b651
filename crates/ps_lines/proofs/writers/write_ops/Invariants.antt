use Rattle.std.proofs.Common.{◌<◌, ◌^◌, take}
use Rattle.std.specs.List.{All}
use Rattle.ps_bucket_log.specs.Ops.{checksum}
use Rattle.ps_lines.proofs.Tokens.{IsWrittenTo}
use Rattle.ps_lines.specs.Writing.{op_json}
use Rattle.ps_lines.proofs.writers.write_ops.Given as goal

abbrev pub invariant-ops : goal.invariant-ops
invariant-ops l = record {
  written : IsWrittenTo op_json l.ops l.op-index l.initial.writer l.writer;
  sums : All (λ op. checksum op < 2 ^ 32) (take l.op-index l.ops);
}
