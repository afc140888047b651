pub mod Closed
pub mod Coming
pub mod Answering
pub mod Crew
