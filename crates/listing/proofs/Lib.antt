pub mod SumLaws
pub mod Lengths
