pub mod Within
pub mod Line
