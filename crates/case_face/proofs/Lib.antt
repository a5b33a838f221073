pub mod CaseLaws
pub mod HutLaws
