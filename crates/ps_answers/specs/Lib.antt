pub mod Givings
pub mod Heads
pub mod Lines
pub mod Numbers
pub mod Readers
pub mod Requests
pub mod Tokens
