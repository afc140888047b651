-- The types of this crate, for the definitions of the crates above.
pub use Rattle.ps_lock.specs.declared.tables.StoreLock.{StoreLock}
pub use Rattle.ps_lock.specs.declared.tables.Seat.{Seat}
pub use Rattle.ps_lock.specs.declared.tables.Turn.{Turn}
