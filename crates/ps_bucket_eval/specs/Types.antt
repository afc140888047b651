-- The types of this crate, for the definitions of the crates above.
pub use Rattle.ps_bucket_eval.specs.declared.placed.Placed.{Placed}
pub use Rattle.ps_bucket_eval.specs.declared.faults.PlaceFault.{PlaceFault}
pub use Rattle.ps_bucket_eval.specs.declared.faults.PlaceFault.TheVariants.{TooWide, Memory}
pub use Rattle.ps_bucket_eval.specs.declared.changes.ChangeEntries.{ChangeEntries}
