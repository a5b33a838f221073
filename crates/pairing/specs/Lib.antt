pub mod Pair
pub mod Told
pub mod Room
