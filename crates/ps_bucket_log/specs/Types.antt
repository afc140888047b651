-- The types of this crate, for the definitions of the crates above.
pub use Rattle.ps_bucket_log.specs.declared.ops.Key.{Key}
pub use Rattle.ps_bucket_log.specs.declared.ops.Op.{Op}
pub use Rattle.ps_bucket_log.specs.declared.ops.Op.TheVariants.{Put, Remove, Move, Clear}
pub use Rattle.ps_bucket_log.specs.declared.batches.Batch.{Batch}
