pub mod Listing
pub mod Sound
pub mod Keys
pub mod Blaming
pub mod Sums
pub mod Listed
pub mod Bad
