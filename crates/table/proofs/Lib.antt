pub mod Found
pub mod Frames
pub mod Order
pub mod Vetted
