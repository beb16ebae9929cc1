mod Codes
pub mod Standing
pub mod Puts
