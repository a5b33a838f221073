pub mod Case
pub mod Unfit
