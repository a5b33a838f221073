pub mod Columns
pub mod Flipping
pub mod Written
pub mod Asks
