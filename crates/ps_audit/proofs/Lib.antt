pub mod Placing
pub mod Counted
pub mod Entering
pub mod Showing
pub mod Meanings
pub mod Passing
pub mod Heard
