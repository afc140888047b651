pub mod Opening
pub mod Saying
