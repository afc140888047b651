pub mod Newest
pub mod Rising
