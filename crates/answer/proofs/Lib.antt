pub mod Digits
pub mod Pages
pub mod Put
