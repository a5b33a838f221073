pub mod Wide
pub mod Values
pub mod Adjusting
pub mod GoodLaws
pub mod Arms
