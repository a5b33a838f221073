pub mod StepLaws
pub mod AskLaws
pub mod StarLaws
