pub mod ListLaws
pub mod Narrow
pub mod Lengths
