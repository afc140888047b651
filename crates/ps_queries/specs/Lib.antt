pub mod Json
pub mod Meaning
pub mod Objects
pub mod Subjects
pub mod ValueLaws
pub mod Vectors
