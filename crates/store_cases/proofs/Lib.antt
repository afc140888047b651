pub mod Filled
pub mod Lasting
