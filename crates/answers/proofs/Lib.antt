pub mod Sums
pub mod CallLaws
