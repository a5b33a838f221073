pub mod Flips
pub mod Free
pub mod Markings
pub mod Starrings
pub mod Differences
pub mod Counted
