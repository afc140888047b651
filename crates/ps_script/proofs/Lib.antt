pub mod Tests
pub mod Cutting
pub mod Arguments
pub mod Spelled
pub mod Found
