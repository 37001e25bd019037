pub mod Writing
pub mod WritingLaws
pub mod WriterLaws
