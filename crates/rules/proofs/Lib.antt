pub mod JudgeLaws
pub mod Rooms
