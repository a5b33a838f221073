pub mod Theorems
pub mod Only
