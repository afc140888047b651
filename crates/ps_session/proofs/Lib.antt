pub mod Names
pub mod Walks
pub mod Seats
pub mod Changes
pub mod Steps
