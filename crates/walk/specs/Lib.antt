pub mod Memory
pub mod Outcomes
pub mod Runs
pub mod Orders
pub mod Filling
pub mod Walking
pub mod Stacks
pub mod Walks
