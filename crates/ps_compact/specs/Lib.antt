pub mod Compaction
pub mod Meeting
pub mod Laws
