pub mod Form
pub mod Section
pub mod Entries
pub mod Table
pub mod Order
pub mod Record
pub mod Kept
pub mod Laws
