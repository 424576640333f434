pub mod Network
pub mod Constraints
pub mod Judged
pub mod Marks
pub mod Steps
pub mod Theorems
pub mod AtNumbers
