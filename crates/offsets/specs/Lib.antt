pub mod Conditions
pub mod Search
pub mod Steps
pub mod Theorems
