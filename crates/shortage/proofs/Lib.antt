pub mod Lengths
pub mod Counts
