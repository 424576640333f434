pub mod Listed
pub mod Rechecks
pub mod Premise
pub mod Steps
pub mod Theorems
pub mod AtNumbers
