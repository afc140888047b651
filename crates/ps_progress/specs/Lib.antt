pub mod Downloads
pub mod Meters
