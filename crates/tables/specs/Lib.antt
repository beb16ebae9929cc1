pub mod Size
pub mod Lines
pub mod Rows
pub mod Contents
pub mod LineIds
pub mod Events
pub mod View
pub mod Places
