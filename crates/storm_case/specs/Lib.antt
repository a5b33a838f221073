pub use Rattle.judgement.specs.Numbers
pub use Rattle.judgement.specs.Scan
pub use Rattle.judgement.specs.Refused
pub use Rattle.said.specs.Said
pub mod Case
pub mod Format
