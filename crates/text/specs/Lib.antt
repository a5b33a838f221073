pub mod Text
pub mod Ascii
pub mod Numbers
pub mod Puts
