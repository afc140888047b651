pub mod Auditing
pub mod Causes
pub mod Commands
pub mod Generating
pub mod Meanings
pub mod Replaying
pub mod Replays
pub mod Scripts
