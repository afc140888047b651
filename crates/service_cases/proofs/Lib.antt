pub mod Staying
pub mod Turning
