pub mod Answers
pub mod Ends
pub mod Openings
pub mod Printing
pub mod Running
pub mod Serving
pub mod Totals
