pub mod Counts
pub mod Grids
pub mod Columns
