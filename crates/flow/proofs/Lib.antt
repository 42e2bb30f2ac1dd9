pub mod First
pub mod Checks
pub mod Many
mod Spelt
pub mod Totals
