pub mod GateList
pub mod Lists
pub mod Steps
pub mod Theorems
pub mod AtNumbers
