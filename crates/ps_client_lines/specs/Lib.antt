pub mod Rows
pub mod Holding
pub mod Refusing
pub mod Images
