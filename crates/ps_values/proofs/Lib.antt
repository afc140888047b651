pub mod Decimals
pub mod Faults
pub mod Objects
pub mod Orders
pub mod Plainness
pub mod Rising
pub mod Written
