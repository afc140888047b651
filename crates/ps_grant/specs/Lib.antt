pub mod Mapped
pub mod Solving
