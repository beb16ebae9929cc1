pub mod Number
pub mod Amiss
pub mod Put
