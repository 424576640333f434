pub mod Survey
pub mod Steps
pub mod Theorems
