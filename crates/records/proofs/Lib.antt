pub mod RecordLaws
pub mod Cuts
pub mod Only
