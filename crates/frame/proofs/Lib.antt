pub mod Reading
pub mod Scans
pub mod Late
pub mod Fits
pub mod Inserts
pub mod Filing
pub mod Shares
