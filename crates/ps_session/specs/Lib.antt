pub mod Types
pub mod Takes
pub mod Sessions
pub mod Kept
pub mod Matches
