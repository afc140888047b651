pub mod Answers
pub mod Taken
pub mod Tasks
pub mod Workers
