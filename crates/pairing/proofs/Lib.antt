pub mod Fronts
pub mod AboutLaws
pub mod PairLaws
pub mod OnlyPairs
pub mod AboutLines
