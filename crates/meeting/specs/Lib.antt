pub mod Meets
pub mod Theorems
pub mod AtNumbers
