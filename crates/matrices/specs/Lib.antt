pub mod Cell
pub mod Path
pub mod Prices
