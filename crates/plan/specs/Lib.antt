pub mod Journal
pub mod Follows
pub mod Plans
