pub mod Cells
pub mod Asks
