pub mod PutLaws
pub mod NumberLaws
pub mod Lengths
pub mod Samples
pub mod Only
