pub mod Flags
pub mod Zeros
pub mod Rows
pub mod Zips
pub mod Walk
