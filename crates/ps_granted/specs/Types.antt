-- The types of this crate, for the definitions of the crates above.
pub use Rattle.ps_granted.specs.declared.copies.Granted.{Granted}
pub use Rattle.ps_granted.specs.declared.live_rows.LiveRow.{LiveRow}
