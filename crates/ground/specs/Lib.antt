pub mod Square
pub mod View
pub mod Least
pub mod Prices
pub mod Good
