pub mod Start
pub mod Ways
pub mod Asks
