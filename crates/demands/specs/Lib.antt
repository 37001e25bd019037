pub mod Calls
pub mod Cases
pub mod Rows
pub mod Bytes
pub mod Predicates
pub mod Sharp
pub mod Needed
pub mod Demands
