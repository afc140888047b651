pub mod Targets
pub mod Halving
pub mod Orders
pub mod Cutting
pub mod Noting
pub mod Walking
pub mod Heads
pub mod Fronts
