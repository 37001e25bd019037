pub mod Guarantees
pub mod Fitting
pub mod GuaranteeLaws
pub mod Soundness
pub mod Bounds
