pub mod Schemas
pub mod Statements
pub mod Tables
pub mod Lines
pub mod Steps
pub mod Finding
