pub mod Bytes
pub mod Page
pub mod Put
