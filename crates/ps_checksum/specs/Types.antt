-- The types of this crate, for the definitions of the crates above.
pub use Rattle.ps_checksum.specs.declared.sums.Sum.{Sum}
