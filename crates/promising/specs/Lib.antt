pub mod Promises
pub mod Wrote
