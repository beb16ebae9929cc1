pub mod Accounts
pub mod Ruling
pub mod Text
