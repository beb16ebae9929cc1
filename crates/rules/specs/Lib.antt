pub mod Rules
pub mod Sheets
pub mod Text
pub mod Waits
