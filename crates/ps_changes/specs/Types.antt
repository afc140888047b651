-- The types of this crate, for the definitions of the crates above.
pub use Rattle.ps_rows.specs.declared.changes.Change.{Change}
pub use Rattle.ps_rows.specs.declared.changes.Transaction.{Transaction}
pub use Rattle.ps_changes.specs.declared.faults.ChangeFault.{ChangeFault}
pub use Rattle.ps_changes.specs.declared.faults.ChangeFault.TheVariants.{LineTooLong, BadJson, BadShape, BadPosition, BadValue, Memory}
