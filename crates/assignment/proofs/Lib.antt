pub mod Permuted
pub mod Duality
pub mod Blocks
