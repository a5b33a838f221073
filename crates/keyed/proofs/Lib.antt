pub mod Packs
pub mod Opens
pub mod KeyBits
pub mod Lowers
pub mod OpenColumns
pub mod Cheapests
pub mod Fills
