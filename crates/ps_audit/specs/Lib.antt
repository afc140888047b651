pub mod Positions
pub mod Judging
pub mod Meaning
pub mod Honest
pub mod Counts
pub mod Places
pub mod Hearing
