pub mod Pushes
pub mod Numbering
pub mod Codes
pub mod Goods
pub mod Counts
pub mod Shorts
