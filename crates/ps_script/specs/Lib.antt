pub mod Lines
pub mod Words
pub mod Verbs
pub mod Grammar
pub mod Events
pub mod Refusals
