pub mod Statistics
pub mod Pigeonhole
pub mod ListLaws
pub mod Reading
