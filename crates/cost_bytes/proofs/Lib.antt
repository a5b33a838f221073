pub mod ByteLaws
pub mod RoundTrip
