pub mod Format
pub mod Rewrite
pub mod Prune
pub mod Bounds
pub mod Done
pub mod Pruning
pub mod Rewriting
