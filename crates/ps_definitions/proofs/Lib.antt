pub mod Arrays
pub mod Counts
mod DefinitionNames
pub mod Meetings
mod Names
pub mod NamesInOrder
pub mod Spreads
mod Steps
mod Tabled
