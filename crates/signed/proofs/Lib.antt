pub mod Parts
pub mod Ranges
