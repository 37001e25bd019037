pub mod Bytes
pub mod Predicates
pub mod Rows
pub mod Sharp
pub mod Rounds
pub mod Demands
