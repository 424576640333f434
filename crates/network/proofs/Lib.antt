pub mod Refuting
pub mod Ranges
pub mod Judging
pub mod Marks
pub mod Theorems
pub mod AtNumbers
