pub mod Problem
pub mod Prices
