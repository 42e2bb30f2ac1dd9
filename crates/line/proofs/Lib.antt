pub mod Behind
pub mod Digits
pub mod Fronts
pub mod Splits
