pub mod Naming
pub mod Checks
