pub mod Refusals
pub mod Book
pub mod Consoles
