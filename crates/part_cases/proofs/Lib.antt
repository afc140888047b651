pub mod Left
pub mod Orders
pub mod Rising
pub mod Steps
pub mod Together
