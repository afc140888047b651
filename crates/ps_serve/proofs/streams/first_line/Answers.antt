use Rattle.std.proofs.Common.{Option, IfSome, subst}
use Rattle.ps_lines.specs.declared.lines.Line.{Line}
use Rattle.ps_lines.specs.Writing.{IsWritable}
use Rattle.ps_serve.proofs.streams.first_line.Goals as goal

pub write_line-requires : goal.write_line-requires
write_line-requires c = subst (λ (o : Option Line). IfSome o IsWritable) c.in-Some.is c.in-Ok.ensures.writable
