pub mod Sums
pub mod Types
