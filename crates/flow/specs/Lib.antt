pub mod First
pub mod Rules
pub mod Outcomes
pub mod Reading
pub mod Spelling
pub mod Views
pub mod Flows
