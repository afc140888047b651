pub mod Steps
pub mod Keys
pub mod Kept
pub mod Counts
pub mod Twice
pub mod Moving
pub mod Clearing
pub mod Examples
