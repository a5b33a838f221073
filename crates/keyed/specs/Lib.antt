pub mod Keys
pub mod Best
pub mod Opening
pub mod Filled
pub mod Asks
