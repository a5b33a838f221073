pub mod LineLaws
pub mod Samples
pub mod Lengths
pub mod Theorems
pub mod Told
pub mod Computed
pub mod Closed
