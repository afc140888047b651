pub mod SubjectLaws
pub mod ValueExamples
