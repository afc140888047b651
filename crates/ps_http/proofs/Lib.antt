pub mod Givings
pub mod Pairs
pub mod Digits
pub mod Ends
pub mod Fillings
pub mod Steps
