pub mod Report
pub mod Word
