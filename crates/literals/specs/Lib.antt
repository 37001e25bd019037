pub mod Signed
pub mod Literals
pub mod LiteralLaws
pub mod Suited
