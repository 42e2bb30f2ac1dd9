pub mod Next
pub mod Members
pub mod Least
pub mod Passes
pub mod Sorting
pub mod Visits
pub mod Slacks
