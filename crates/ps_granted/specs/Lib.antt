pub mod Grants
pub mod Latest
pub mod Laws
pub mod Sources
pub mod Types
