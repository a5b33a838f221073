pub mod Lengths
pub mod Anys
