pub mod Admits
pub mod Adding
pub mod Steps
pub mod Theorems
pub mod AtNumbers
