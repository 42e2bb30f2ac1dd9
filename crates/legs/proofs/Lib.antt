pub mod Frames
pub mod Walks
pub mod Totals
mod Worked
