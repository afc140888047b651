pub mod Checks
pub mod Drafts
pub mod Faults
pub mod Grammar
pub mod Reading
pub mod Refusals
pub mod Shapes
