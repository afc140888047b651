pub mod Inputs
pub mod ServeFaults
