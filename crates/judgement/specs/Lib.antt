pub mod Numbers
pub mod Scan
pub mod Says
pub mod Refused
pub mod Listed
pub mod View
