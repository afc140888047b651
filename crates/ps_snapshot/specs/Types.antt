-- The types of this crate, for the definitions of the crates above.
pub use Rattle.ps_snapshot.specs.declared.lines.CopiedRow.{CopiedRow}
pub use Rattle.ps_snapshot.specs.declared.lines.Chunk.{Chunk}
pub use Rattle.ps_snapshot.specs.declared.lines.Line.{Line}
pub use Rattle.ps_snapshot.specs.declared.lines.Line.TheVariants.{Begin, Rows, End, Changes}
pub use Rattle.ps_snapshot.specs.declared.faults.LineFault.{LineFault}
pub use Rattle.ps_snapshot.specs.declared.faults.LineFault.TheVariants.{LineTooLong, BadJson, BadShape, BadPosition, BadValue, BadChunk, NotRising, NotCovered, Memory}
