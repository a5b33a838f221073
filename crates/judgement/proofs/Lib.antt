pub mod OneRecord
pub mod ScanLaws
pub mod ViewLaws
pub mod Samples
pub mod Longest
