use Rattle.std.proofs.Common.{◌≡◌, drop}
use Rattle.ps_yaml.specs.Scalars as words
use Rattle.ps_yaml.proofs.scalars.block_indent.Given as goal

abbrev pub invariant-lines : goal.invariant-lines
invariant-lines l = words.block_indent l.indent l.lines ≡ words.block_indent l.indent (drop l.line-index l.lines)
