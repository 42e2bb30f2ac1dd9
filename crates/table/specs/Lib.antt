pub mod Force
pub mod Places
pub mod Frame
pub mod Vetting
pub mod Tables
