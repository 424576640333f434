pub mod Solving
pub mod Rounds
pub mod Walks
pub mod Steps
pub mod Theorems
pub mod AtNumbers
