pub mod Sorting
pub mod Slots
pub mod Entering
pub mod States
pub mod Granted
