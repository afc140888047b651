pub mod Notes
pub mod Two
