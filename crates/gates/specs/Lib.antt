pub mod Holding
pub mod Pairs
pub mod Cycle
pub mod Steps
pub mod Theorems
pub mod AtNumbers
