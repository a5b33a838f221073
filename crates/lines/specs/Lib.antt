pub mod Sum
pub mod Count
pub mod First
pub mod Square
pub mod Sets
pub mod Walk
pub mod Bounds
pub mod Put
