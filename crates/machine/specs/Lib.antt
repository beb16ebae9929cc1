pub mod States
pub mod Sound
pub mod Machines
pub mod Tests
pub mod Calls
pub mod Endings
pub mod Plays
