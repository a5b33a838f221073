pub mod Said
pub mod Asks
