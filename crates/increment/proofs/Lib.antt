pub mod Rule
pub mod Last
pub mod Whole
pub mod Bound
