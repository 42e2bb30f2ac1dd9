pub mod Following
mod Obeying
mod Presence
mod Reverting
pub mod Undoing
