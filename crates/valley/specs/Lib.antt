pub mod Lines
pub mod Report
pub mod Told
pub mod Computed
