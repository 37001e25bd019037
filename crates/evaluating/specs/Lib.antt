pub mod Rows
pub mod Ready
pub mod FromChecks
pub mod Steps
pub mod Ends
